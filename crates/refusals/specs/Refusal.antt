-- What the refusals mean: their numbers in documents 01 and 02, the count that goes with some of them, and the answers that give them.
use Rattle.std.specs.Prelude.{ℕ, Result, Ok, Err}
use Rattle.spec.specs.declared.Answer.{Answer}
use Rattle.refusals.specs.declared.Refusal.{Refusal}
use Rattle.refusals.specs.declared.Refusal.TheVariants.{NotAShape, NotARowLength, BufferLength, GrindingBit, TooManyNodes, UnusedSlot, NotAStretch}

unfoldable pub number_of : Refusal → ℕ
number_of NotAShape = 1
number_of NotARowLength = 2
number_of BufferLength = 3
number_of GrindingBit = 4
number_of (TooManyNodes n) = 5
number_of (UnusedSlot n) = 6
number_of NotAStretch = 8

-- the count of revealed nodes, with the refusals that come behind planning
unfoldable pub count_of : Refusal → ℕ
count_of (TooManyNodes n) = n
count_of (UnusedSlot n) = n
count_of r = 0

-- the number of tests that pass or give a refusal: 0 where they pass
abbrev pub number_in : {T : Type 0} → Result T Refusal → ℕ
number_in (Ok x) = 0
number_in (Err r) = number_of r

-- the answer of a call that gives a count or a refusal
abbrev pub answer_in : Result ℕ Refusal → Answer
answer_in (Ok n) = record { number = 0; count = n }
answer_in (Err r) = record { number = number_of r; count = count_of r }
