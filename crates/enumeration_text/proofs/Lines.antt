-- The texts of lines that are given by a rule are the rule's texts one behind another, and a byte has two hexadecimal digits. By induction on the
-- lines and on the bytes.
use Prim.Native.Nat.{ℕ, zero, suc, ◌+◌, ◌*◌}
use mathlib.Core.Path.{◌≡◌, refl, sym, ap, ◌∙◌}
use mathlib.Core.List.{List, ◌++◌}
use native.Mathlib.Omega.{arith}
use lib.ListN.{length, length-append}
use Rattle.spec.specs.Bytes.{tabulate, concat}
use Rattle.laws.proofs.Concat.{concat-same, concat-append}
use Rattle.enumeration_text.specs.Listed.{Listed}
use Rattle.enumeration_text.specs.Text.{hex_text, line_text, lines_text}

-- the first text, and the others
concat-first : (n : ℕ) (f : ℕ → List ℕ) → concat (suc n) f ≡ f 0 ++ concat n (λ i. f (suc i))
unfolding concat
concat-first n f =
    ap (λ (m : ℕ). concat m f) (let z : suc n ≡ 1 + n = omega arith in z)
    ∙ concat-append f 1 n
    ∙ ap (λ (l : List ℕ). f 0 ++ l) (concat-same (λ i. f (1 + i)) (λ i. f (suc i)) n (λ i h. ap f (let z : 1 + i ≡ suc i = omega arith in z)))

pub lines-text : (n : ℕ) (g : ℕ → Listed) → lines_text (tabulate n g) ≡ concat n (λ i. line_text (g i))
unfolding tabulate lines_text concat
lines-text zero g = refl
lines-text (suc n) g = ap (λ (l : List ℕ). line_text (g 0) ++ l) (lines-text n (λ i. g (suc i))) ∙ sym (concat-first n (λ i. line_text (g i)))

two-each : (n : ℕ) (f : ℕ → List ℕ) → ((i : ℕ) → length (f i) ≡ 2) → length (concat n f) ≡ 2 * n
unfolding concat
two-each zero f h = refl
two-each (suc n) f h = (let ih = two-each n f h in let a = length-append (concat n f) (f n) in let t = h n in omega arith)

pub hex-length : (bytes : List ℕ) → length (hex_text bytes) ≡ 2 * length bytes
unfolding hex_text
hex-length bytes = two-each (length bytes) _ (λ i. refl)
