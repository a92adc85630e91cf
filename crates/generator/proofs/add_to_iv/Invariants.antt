-- `generator::add_to_iv` meets its contract. The loop's invariant: the IV plus n is the number in out and what is to be carried to byte 15 - i.
use Rattle.std.proofs.Common.{◌-◌, ◌^◌, ◌<◌}
use Rattle.laws.proofs.Numbers.{Digits}
use Rattle.generator.proofs.Carrying.{Carried}
use Rattle.generator.proofs.add_to_iv.Given as goal

abbrev pub invariant-loop-i : goal.invariant-loop-i
invariant-loop-i l = (l.carry < 2 ^ 32) × Digits 8 l.out × Carried l.initial.out l.n l.out l.carry (16 - l.i)
