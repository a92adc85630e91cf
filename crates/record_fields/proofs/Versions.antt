-- Every version has a head of nine bytes at least; and the byte that names a version, by the three that do.
use Prim.Native.Nat.{ℕ, ◌≤◌}
use native.Mathlib.Omega.{arith}
use mathlib.Core.Path.{◌≡◌, refl}
use mathlib.Core.Bool.{Bool, true, false, cond}
use lib.Dec.{eqb}
use borrow.Author.Tests.{eqb-true}
use Rattle.std.specs.Prelude.{Option, Some, None}
use Rattle.record.specs.Record.{head_bytes}
use Rattle.record_fields.specs.declared.RecordVersion.{RecordVersion}
use Rattle.record_fields.specs.declared.RecordVersion.TheVariants.{One, Two, Three}
use Rattle.record_fields.specs.Versions.{byte_of, version_named}

pub nine : (v : RecordVersion) → 9 ≤ head_bytes (byte_of v)
unfolding head_bytes byte_of
nine One = omega arith
nine Two = omega arith
nine Three = omega arith

pub named-byte : (b : ℕ) (v : RecordVersion) → Some v ≡ version_named b → byte_of v ≡ b
unfolding byte_of version_named
named-byte b v = go (eqb b 1) (eqb b 2) (eqb b 3) refl refl refl
  where
    go : (x y z : Bool) → eqb b 1 ≡ x → eqb b 2 ≡ y → eqb b 3 ≡ z → Some v ≡ cond x (Some One) (cond y (Some Two) (cond z (Some Three) None)) → byte_of v ≡ b
    go true y z p q r h = (let e : v ≡ One = cc in rw (e, eqb-true b 1 p) refl)
    go false true z p q r h = (let e : v ≡ Two = cc in rw (e, eqb-true b 2 q) refl)
    go false false true p q r h = (let e : v ≡ Three = cc in rw (e, eqb-true b 3 r) refl)
    go false false false p q r h = cc

pub unnamed : (b : ℕ) → None ≡ version_named b → head_bytes b ≡ 0
unfolding head_bytes version_named
unnamed b = go (eqb b 1) (eqb b 2) (eqb b 3)
  where
    go : (x y z : Bool) → ◌≡◌ {A = Option RecordVersion} None (cond x (Some One) (cond y (Some Two) (cond z (Some Three) None))) → ◌≡◌ {A = ℕ} (cond x 9 (cond y 10 (cond z 11 0))) 0
    go true y z h = cc
    go false true z h = cc
    go false false true h = cc
    go false false false h = refl
