-- What reading a front gives, where it is refused before its head and where the head is there: by the tests of the front. And the fields behind it, by their lengths.
use Prim.Native.Nat.{ℕ, ◌+◌, ◌≤◌, ◌<◌}
use mathlib.Core.Path.{◌≡◌, refl, sym, ◌∙◌}
use mathlib.Core.Bool.{Bool, true, false, cond}
use mathlib.Core.List.{List}
use lib.ListN.{length}
use borrow.Author.Tests.{lt-ltb}
use Rattle.rules.proofs.RowLength.{row-max}
use Rattle.record.specs.Fields.{field_ok, field_at, behind}
use Rattle.record.specs.Record.{version_of, head_bytes, version_ok, head_of, corrections_place, opening_place, commitment_place, contents_of, head_number, fields_number}
use Rattle.record.proofs.Fields.{field-length, field_room}
use Rattle.record.proofs.Reading.{front-shape, front-row, fields-rest}
use Rattle.std.specs.Prelude.{Result, Ok, Err, IfOk}
use Rattle.record_fields.specs.declared.RecordVersion.{RecordVersion}
use Rattle.record_fields.specs.Versions.{byte_of}
use Rattle.record_reading.specs.declared.Front.{Front}
use Rattle.record_reading.specs.declared.RecordRefusal.{RecordRefusal}
use Rattle.record_reading.specs.declared.RecordRefusal.TheVariants.{NotAShape, NotARowLength, UnknownVersion, NotARecord, NotANamedSet}
use Rattle.record_reading.specs.declared.Sizes.{Sizes}
use Rattle.record_reading.specs.Front.{number_of, number_in, said_number, front_in, FrontOf, ReadFront, SizesOf}

pub numbered : (r : RecordRefusal) → number_of r ≡ 0 → ⊥
unfolding number_of
numbered = elim [
  | NotAShape ↦ λ h. cc
  | NotARowLength ↦ λ h. cc
  | UnknownVersion ↦ λ h. cc
  | NotARecord ↦ λ h. cc
  | NotANamedSet ↦ λ h. cc
]

module _ (rec : List ℕ) where
  pub refused : (x : RecordRefusal) → number_of x ≡ head_number rec → ReadFront rec (Err x)
  refused x n = record { number = n; said = tt }

  pub no-version : head_bytes (version_of rec) ≡ 0 → head_number rec ≡ 9
  unfolding head_number version_ok
  no-version z = rw z refl

  module _ (known : 0 < head_bytes (version_of rec)) where
    pub no-head : field_ok rec 1 (head_bytes (version_of rec)) ≡ false → head_number rec ≡ 10
    unfolding head_number version_ok
    no-head m = rw (lt-ltb 0 (head_bytes (version_of rec)) known, m) refl

    module _ (there : field_ok rec 1 (head_bytes (version_of rec)) ≡ true) where
      pub head-long : length (head_of rec) ≡ head_bytes (version_of rec)
      head-long = field-length rec 1 (head_bytes (version_of rec)) there

      number : said_number (version_of rec) (head_of rec) ≡ head_number rec
      unfolding head_number version_ok contents_of said_number
      number = sym (rw (lt-ltb 0 (head_bytes (version_of rec)) known, there) refl)

      module _ (v : RecordVersion) (of : byte_of v ≡ version_of rec) where
        says : head_number rec ≡ 0 → FrontOf rec (front_in v (head_of rec))
        unfolding contents_of
        says ok =
            record {
              read = ok;
              version = of;
              shape = rw of refl;
              resolved = rw of refl;
              row = refl;
              bytes = refl;
              allowed = rw of (front-shape rec ok);
              few = row-max _ (front-row rec ok);
            }

        pub front_read : (r : Result Front RecordRefusal) → number_in r ≡ said_number (version_of rec) (head_of rec) → IfOk r (λ f. f ≡ front_in v (head_of rec)) → ReadFront rec r
        front_read (Ok f) n e = record { number = n ∙ number; said = rw e (says (sym (n ∙ number))) }
        front_read (Err x) n e = refused x (n ∙ number)

-- ---- the fields of a record with these lengths, where the reader stands

module _ (rec : List ℕ) (z : Sizes) (n : SizesOf rec z) where
  pub fields-room : fields_number rec ≡ 0 → 1 + 4 + z.head + 4 + 16 + 4 + z.challenge + 4 + z.corrections + 4 + z.opening + 4 + z.commitment ≤ length rec
  unfolding corrections_place opening_place commitment_place
  fields-room ok = rw (n.head, n.challenge, n.corrections, n.opening, n.commitment) (field_room rec _ _ (fields-rest rec ok).4)

  pub contents-are : (f : Front) → FrontOf rec f
      → contents_of rec
      ≡ record {
        shape = f.shape;
        row = f.row;
        iv = field_at rec (behind 1 z.head) 16;
        challenge = field_at rec (behind (behind 1 z.head) 16) z.challenge;
        corrections = field_at rec (behind (behind (behind 1 z.head) 16) z.challenge) z.corrections;
        opening = field_at rec (behind (behind (behind (behind 1 z.head) 16) z.challenge) z.corrections) z.opening;
        commitment = field_at rec (behind (behind (behind (behind (behind 1 z.head) 16) z.challenge) z.corrections) z.opening) z.commitment;
      }
  unfolding contents_of corrections_place opening_place commitment_place
  contents-are f p = rw (p.shape, p.row, n.head, n.challenge, n.corrections, n.opening, n.commitment) refl

-- ---- the end of the fields, if they are there

pub there : (b : Bool) (e n : ℕ) → ◌≡◌ {A = Result ℕ ℕ} (Ok n) (cond b (Ok e) (Err e)) → (b ≡ true) × (n ≡ e)
there true e n h = (refl, cc)
there false e n h = cc

pub missing : (b : Bool) (e n : ℕ) → ◌≡◌ {A = Result ℕ ℕ} (Err n) (cond b (Ok e) (Err e)) → b ≡ false
missing true e n h = cc
missing false e n h = refl
