-- What a front says and the lengths of the fields by it, as they are passed on: for which record a value of each holds.
use Rattle.std.specs.Prelude.{ℕ, ◌+◌, ◌/◌, ◌≤◌, ◌≡◌, true, ◌&&◌, List, [], ◌∷◌, Result, Ok, Err, IfOk}
use Rattle.spec.specs.Shapes.{resolved, shape_ok, challenge_bytes, hash_bytes, opening_bytes, corrections_bytes}
use Rattle.spec.specs.Calls.{first_refusal, row_ok}
use Rattle.record.specs.Record.{version_of, head_bytes, shape_in, row_in, contents_of, kind_fits, head_number}
use Rattle.record_fields.specs.declared.RecordVersion.{RecordVersion}
use Rattle.record_fields.specs.Versions.{byte_of}
use Rattle.record_reading.specs.declared.Front.{Front}
use Rattle.record_reading.specs.declared.RecordRefusal.{RecordRefusal}
use Rattle.record_reading.specs.declared.RecordRefusal.TheVariants.{NotAShape, NotARowLength, UnknownVersion, NotARecord, NotANamedSet}
use Rattle.record_reading.specs.declared.Sizes.{Sizes}

-- the number of a refusal, and of what is read or refused: 0 where it is read
unfoldable pub number_of : RecordRefusal → ℕ
number_of NotAShape = 1
number_of NotARowLength = 2
number_of UnknownVersion = 9
number_of NotARecord = 10
number_of NotANamedSet = 13

abbrev pub number_in : {T : Type 0} → Result T RecordRefusal → ℕ
number_in (Ok x) = 0
number_in (Err r) = number_of r

-- the number of what a head of a version says: of its shape and its row length
unfoldable pub said_number : ℕ → List ℕ → ℕ
said_number version head =
    let s = shape_in version head in
    first_refusal ((shape_ok (resolved s) && kind_fits version s.kind, 1) ∷ (row_ok (row_in head), 2) ∷ [])

-- what a head of a version says
abbrev pub front_in : RecordVersion → List ℕ → Front
front_in version head =
    let s = shape_in (byte_of version) head in
    let n = row_in head in
    record {
      version = version;
      shape = s;
      resolved = resolved s;
      row = n;
      row_bytes = n / 8;
    }

-- the front of rec is read, and says f
pub record FrontOf (rec : List ℕ) (f : Front) : Type 0 where
  pub read : head_number rec ≡ 0
  pub version : byte_of f.version ≡ version_of rec
  pub shape : f.shape ≡ (contents_of rec).shape
  pub resolved : f.resolved ≡ resolved (contents_of rec).shape
  pub row : f.row ≡ (contents_of rec).row
  pub bytes : f.row_bytes ≡ (contents_of rec).row / 8
  pub allowed : shape_ok f.resolved ≡ true
  pub few : f.row_bytes ≤ 8192

-- r is what reading the front of rec gives
pub record ReadFront (rec : List ℕ) (r : Result Front RecordRefusal) : Type 0 where
  pub number : number_in r ≡ head_number rec
  pub said : IfOk r (λ f. FrontOf rec f)

-- the front of rec is read, and its fields have the lengths z
pub record SizesOf (rec : List ℕ) (z : Sizes) : Type 0 where
  pub read : head_number rec ≡ 0
  pub head : z.head ≡ head_bytes (version_of rec)
  pub challenge : z.challenge ≡ challenge_bytes (resolved (contents_of rec).shape)
  pub corrections : z.corrections ≡ corrections_bytes (resolved (contents_of rec).shape) ((contents_of rec).row / 8)
  pub opening : z.opening ≡ opening_bytes (resolved (contents_of rec).shape)
  pub commitment : z.commitment ≡ hash_bytes (resolved (contents_of rec).shape)
  pub most : z.head + z.challenge + z.corrections + z.opening + z.commitment ≤ 273515
