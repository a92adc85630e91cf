-- FIPS 202, Algorithm 8, between the parts of a message: what a sponge at the rate r has absorbed when its last block is not full yet.
use Rattle.std.specs.Prelude.{ℕ, ◌+◌, ◌*◌, ◌<◌, ◌≡◌, List, ◌++◌, length, get_or, drop}
use Rattle.spec.specs.Sponge.{xor_in, absorbed}
use Rattle.shake.specs.declared.Sponge.{Sponge}

-- the state (lanes, fill) has absorbed the bytes m: the full blocks are permuted, the last fill bytes only xored in
pub record Holds (r : ℕ) (m lanes : List ℕ) (fill : ℕ) : Type 0 where
  pub full : ℕ
  pub count : length m ≡ r * full + fill
  pub room : fill < r
  pub small : (i : ℕ) → get_or m i 0 < 256
  pub state : lanes ≡ xor_in (absorbed r full m) (drop (r * full) m)

-- a sponge has absorbed the bytes m
abbrev pub Absorbed : Sponge → List ℕ → Type 0
Absorbed s m = Holds s.rate m s.lanes s.fill

-- the sponge s has become t by absorbing the bytes p, whatever it had absorbed before
pub record Absorbs (s : Sponge) (p : List ℕ) (t : Sponge) : Type 0 where
  pub rate : t.rate ≡ s.rate
  pub holds : (m : List ℕ) → Absorbed s m → Absorbed t (m ++ p)
