-- The contract of the exported decode from that of decode: xs are the numbers lent, ys those that come back, `rest` what stands behind them. By the laws of a list that is lent.
use Prim.Native.Nat.{ℕ, ◌*◌, ◌≤◌, ◌<◌}
use mathlib.Core.Path.{◌≡◌, refl, sym, ap, ◌∙◌}
use mathlib.Core.Bool.{Bool, true, false, cond}
use mathlib.Core.List.{List, ◌++◌, append-nil}
use native.Mathlib.Omega.{arith}
use lib.Dec.{eqb}
use lib.ListN.{length, take, drop, drop_of_length-le}
use lib.Seq.{take_at}
use borrow.Author.Tests.{eqb-true}
use Rattle.spec.specs.declared.Shape.{Shape}
use Rattle.spec.specs.declared.Answer.{Answer}
use Rattle.spec.specs.Shapes.{resolved, shape_ok, hidden_indices, grinding_ok}
use Rattle.spec.specs.Calls.{count_given, written, decode_number, Decode}
use Rattle.spec.specs.HostCalls.{word_bytes, count_slice, with_count, host_list_lengths, HostDecode}
use Rattle.planning_laws.proofs.ShapeFacts.{shape-facts}
use Rattle.shape_host.proofs.Lent.{Lent, Right, same_number, right}

module _ (s : Shape) (ch before count xs ys : List ℕ) (r : Answer) (n : ℕ) (l : length xs ≡ n) (f : Lent before count n 33) (o : Decode s ch xs ys r) where
  few : shape_ok (resolved s) ≡ true → (resolved s).tau < 33
  few e = (let q = shape-facts (resolved s) e in omega arith)

  number : r.number ≡ decode_number (resolved s) ch (with_count count (host_list_lengths (resolved s) (resolved s).tau ch before))
  unfolding decode_number
  number = o.number ∙ same_number (resolved s) ch before count xs n 33 (resolved s).tau (cond (grinding_ok (resolved s) ch) 0 4) l f few

  exact : count_given r.number ≡ true → Right (resolved s) before count n (resolved s).tau
  unfolding decode_number
  exact = right (resolved s) ch before count xs n 33 (resolved s).tau (cond (grinding_ok (resolved s) ch) 0 4) l f few r.number number

  pub decode-sized : count_given r.number ≡ true → length count ≡ 4
  decode-sized h = (exact h).counted

  pub decode-room : r.number ≡ 0 → length before ≡ 4 * n
  decode-room z = (let q = exact (rw z refl) in q.long ∙ ap (λ (m : ℕ). 4 * m) (sym q.numbers))

  pub decode-host : (rest after count' : List ℕ) → length ys ≡ n → after ≡ written r.number (word_bytes (take n (ys ++ rest)) ++ drop (4 * n) before) before
      → count' ≡ count_slice r.number r.count count → HostDecode s ch before after count count' r.number
  decode-host rest after count' m w d = record { number = number; indices = go (eqb r.number 0) refl; counted = rw o.count at d }
    where
      go : (b : Bool) → eqb r.number 0 ≡ b → after ≡ written r.number (word_bytes (hidden_indices (resolved s) ch)) before
      go false e = rw e (rw e at w)
      go true e =
          let p : length before ≤ 4 * n = (let q = decode-room (eqb-true r.number 0 e) in omega arith) in
          rw e (rw e at w ∙ rw (take_at ys rest n m, drop_of_length-le before p, append-nil) (ap word_bytes (rw e at o.indices)))
