-- What the loop keeps: behind what is put stand the lines of the records that are left, and to the totals so far come theirs. One entry more, and the end.
use Prim.Native.Nat.{ℕ, suc, ◌+◌, ◌*◌, ◌≤◌, ◌<◌}
use mathlib.Core.Path.{◌≡◌, refl, sym, ap, ap₂, ◌∙◌}
use mathlib.Core.List.{List, [], ◌∷◌, ◌++◌, append_assoc, append-nil}
use native.Mathlib.Omega.{arith}
use native.Mathlib.Numerals.{add-one}
use lib.ListN.{length, take, drop, length-drop, drop_of_length-le}
use lib.Seq.{drop-drop, length-take-le}
use Rattle.listing_text.specs.Put.{Put}
use Rattle.listing_text.proofs.Writing.{put_next}
use Rattle.report_text.specs.declared.Entry.{Entry}
use Rattle.report_text.specs.Entries.{entry_of, entries_within, entries, sum_of, accepted, nodes_total, unused_total}
use Rattle.report_text.specs.Text.{line_text, lines_from, total_text, entries_text}
use Rattle.report_text.proofs.Entries.{Bounds, bounds, entries_next, totals-next}

pub record Reported (input out : List ℕ) (nodes unused place end at : ℕ) : Type 0 where
  pub within : at ≤ length input
  pub places : place ≤ at + 1
  pub most-nodes : nodes ≤ 512 * at
  pub most-unused : unused ≤ 512 * at
  -- a line is no longer than the record, but behind one that stops the reading
  pub room : end ≤ at + 28
  pub early : at < length input → end ≤ at
  pub lines : take end out ++ lines_from place (entries (drop at input)) ≡ lines_from 1 (entries input)
  pub nodes-left : nodes + nodes_total (entries (drop at input)) ≡ nodes_total (entries input)
  pub unused-left : unused + unused_total (entries (drop at input)) ≡ unused_total (entries input)

pub reported-none : (input out : List ℕ) → Reported input out 0 0 1 0 0
reported-none input out =
    record {
      within = omega arith;
      places = omega arith;
      most-nodes = omega arith;
      most-unused = omega arith;
      room = omega arith;
      early = λ h. omega arith;
      lines = refl;
      nodes-left = omega arith;
      unused-left = omega arith;
    }

module _ (input out : List ℕ) (nodes unused place end at : ℕ) (q : Reported input out nodes unused place end at) where
  -- e is the entry at `at`, and its line is put
  module _ (e : Entry) (is : e ≡ entry_of (drop at input)) (more : at < length input) where
    pub entry-sized : Bounds (drop at input) e
    entry-sized = rw is (bounds (drop at input))

    next : entries (drop at input) ≡ e ∷ entries (drop (at + e.bytes) input)
    next =
        let d = length-drop at input in
        entries_next (drop at input) (omega arith)
        ∙ ap (λ (x : Entry). x ∷ entries (drop x.bytes (drop at input))) (sym is)
        ∙ ap (λ (l : List ℕ). e ∷ entries l) (drop-drop e.bytes at input)

    totals : (es : List Entry) → (nodes_total (e ∷ es) ≡ e.count + nodes_total es) × (unused_total (e ∷ es) ≡ e.unused + unused_total es)
    totals es = rw is (totals-next (drop at input) es)

    pub reported-more : (out' : List ℕ) (r : ℕ) → Put (line_text place e) end out out' r → r ≤ end + 28
        → Reported input out' (nodes + e.count) (unused + e.unused) (place + 1) r (at + e.bytes)
    unfolding lines_from
    reported-more out' r p l =
        let d = length-drop at input in
        let b = entry-sized in
        let rest = entries (drop (at + e.bytes) input) in
        let t = totals rest in
        let n = q.nodes-left in
        let u = q.unused-left in
        let m = ap nodes_total next in
        let v = ap unused_total next in
        let some = b.some (omega arith) in
        record {
          within = omega (arith, b.within);
          places = omega (arith, q.places);
          most-nodes = omega (arith, q.most-nodes, b.count);
          most-unused = omega (arith, q.most-unused, b.unused);
          room = omega (arith, q.early more);
          early = λ h. omega (arith, q.early more, b.long (omega arith));
          lines =
              ap₂ (λ (x : List ℕ) (k : ℕ). x ++ lines_from k rest) p.front (add-one place)
              ∙ append_assoc (take end out) (line_text place e) (lines_from (suc place) rest)
              ∙ ap (λ (es : List Entry). take end out ++ lines_from place es) (sym next)
              ∙ q.lines;
          nodes-left = omega arith;
          unused-left = omega arith;
        }

  -- no record is left, and the totals are put
  module _ (done : length input ≤ at) where
    none : entries (drop at input) ≡ []
    unfolding entries_within
    none = ap entries (drop_of_length-le input {i = at} done)

    pub reported-all : (out₀ out' : List ℕ) (r : ℕ) → end ≤ length out → drop end out ≡ drop end out₀ → Put (total_text nodes unused) end out out' r
        → Put (entries_text (entries input)) 0 out₀ out' r
    unfolding entries_text lines_from sum_of accepted nodes_total unused_total
    reported-all out₀ out' r h kept p =
        let front : take end out ≡ lines_from 1 (entries input) =
        sym (append-nil (take end out)) ∙ ap (λ (es : List Entry). take end out ++ lines_from place es) (sym none) ∙ q.lines in
        let n : nodes ≡ nodes_total (entries input) = (let z = q.nodes-left in let e = ap nodes_total none in omega arith) in
        let u : unused ≡ unused_total (entries input) = (let z = q.unused-left in let e = ap unused_total none in omega arith) in
        let put : Put (lines_from 1 (entries input)) 0 out₀ out end = record { end = (let a = ap length front in let b = length-take-le end out h in omega arith); front = front; rest = kept } in
        rw (← n, ← u) (put_next put p)
