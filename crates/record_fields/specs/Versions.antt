-- The versions of a record by their bytes.
use Rattle.std.specs.Prelude.{ℕ, cond, eqb, Option, Some, None}
use Rattle.record_fields.specs.declared.RecordVersion.{RecordVersion}
use Rattle.record_fields.specs.declared.RecordVersion.TheVariants.{One, Two, Three}

unfoldable pub byte_of : RecordVersion → ℕ
byte_of One = 1
byte_of Two = 2
byte_of Three = 3

unfoldable pub version_named : ℕ → Option RecordVersion
version_named b = cond (eqb b 1) (Some One) (cond (eqb b 2) (Some Two) (cond (eqb b 3) (Some Three) None))
