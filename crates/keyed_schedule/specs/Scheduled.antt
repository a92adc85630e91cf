-- What the struct of a key's schedule holds, and its key.
use Rattle.std.specs.Prelude.{◌≡◌, List, ℕ, ◌-◌, ◌%◌, ◌≤◌}
use Rattle.aes_keys.specs.RoundKeys.{Keyed, key_of}
use Rattle.keyed_schedule.specs.declared.KeyedSchedule.TheInside.{Inside}

-- the key of a schedule, which its first round keys have in them
abbrev pub scheduled_key : Inside → List ℕ
scheduled_key s = key_of (s.schedule.rounds - 6) s.schedule.round_keys

-- 10, 12 or 14 rounds, with the round keys of this key
pub record Scheduled (s : Inside) : Type 0 where
  pub least : 10 ≤ s.schedule.rounds
  pub most : s.schedule.rounds ≤ 14
  pub even : s.schedule.rounds % 2 ≡ 0
  pub keyed : Keyed (s.schedule.rounds - 6) (scheduled_key s) s.schedule.round_keys
