-- What the struct of a key schedule holds, and what a contract sees of it.
use Rattle.std.specs.Prelude.{◌≡◌, List, ℕ, ◌+◌, ◌%◌, ◌≤◌}
use Rattle.aes_keys.specs.RoundKeys.{Keyed}
use Rattle.aes_keys.specs.declared.KeySchedule.TheInside.{Inside}

-- how many rounds the round keys are for, and the round keys
pub record Schedule : Type 0 where
  pub rounds : ℕ
  pub round_keys : List (List (List ℕ))

abbrev pub schedule_of : Inside → Schedule
schedule_of s = record { rounds = s.rounds; round_keys = s.round_keys }

-- it is that of a key of nk words
pub record Expands (nk : ℕ) (key : List ℕ) (s : Schedule) : Type 0 where
  pub count : s.rounds ≡ nk + 6
  pub keyed : Keyed nk key s.round_keys

-- 10, 12 or 14 rounds, whatever the round keys are
pub record Scheduled (s : Inside) : Type 0 where
  pub least : 10 ≤ s.rounds
  pub most : s.rounds ≤ 14
  pub even : s.rounds % 2 ≡ 0
