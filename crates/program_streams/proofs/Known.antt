-- What a read puts behind the bytes that earlier reads put into a buffer.
use Rattle.std.proofs.Common.{◌≡◌, ℕ, ◌+◌, ◌≤◌, List, ◌++◌, Option, None, Some, sym, ap, subst, ◌∙◌, append_assoc, length, take, drop}
use Rattle.std.proofs.Common.{drop_at, length-take-le, take_all, arith}
use lib.Seq.{take-add, take-append-le}
use borrow.Rule.Slice.PartMut.{put_mid, post_of}
use Rattle.std.specs.Io.KnownBytes.{Consumes}

-- two reads, one behind another
consumes_both : (a b c : Option (List ℕ)) (bs cs : List ℕ) → Consumes a b bs → Consumes b c cs → Consumes a c (bs ++ cs)
consumes_both None b c bs cs p q = tt
consumes_both (Some x) None c bs cs p q = absurd p
consumes_both (Some x) (Some y) None bs cs p q = absurd q
consumes_both (Some x) (Some y) (Some z) bs cs p q = p ∙ ap (λ l. bs ++ l) q ∙ sym (append_assoc bs cs z)

-- the first bytes of a buffer, where m of a part stand behind n
take_behind : (n m : ℕ) (front part rest : List ℕ) → length front ≡ n → m ≤ length part → take (n + m) (front ++ (part ++ rest)) ≡ front ++ take m part
take_behind n m front part rest long fits =
    let all = front ++ (part ++ rest) in
    let begin : take n all ≡ front = take-append-le n front (part ++ rest) (omega arith) ∙ take_all n front (omega arith) in
    let behind : drop n all ≡ part ++ rest = drop_at front (part ++ rest) n long in
    take-add n m all ∙ ap (λ l. l ++ take m (drop n all)) begin ∙ ap (λ l. front ++ take m l) behind ∙ ap (λ l. front ++ l) (take-append-le m part rest fits)

-- a buffer of which n bytes were read, and m more
pub consumes_more : (a b c : Option (List ℕ)) (n m room : ℕ) (old part : List ℕ) → n ≤ length old → m ≤ length part
    → Consumes a b (take n old) → Consumes b c (take m part) → Consumes a c (take (n + m) (put_mid n room old part))
consumes_more a b c n m room old part within fits before read =
    let all = take_behind n m (take n old) part (post_of n room old) (length-take-le n old within) fits in
    subst (Consumes a c) (sym all) (consumes_both a b c (take n old) (take m part) before read)
