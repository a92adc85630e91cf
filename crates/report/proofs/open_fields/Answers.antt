-- The five fields are those that the record says, so they have its lengths, and the entry of two of them is the record's.
use Prim.Native.Nat.{ℕ}
use mathlib.Core.Path.{◌≡◌, sym, ap, ◌∙◌}
use mathlib.Core.List.{List}
use lib.ListN.{length}
use Rattle.spec.specs.Shapes.{challenge_bytes, opening_bytes}
use Rattle.record.specs.Fields.{field_at, behind}
use Rattle.record.specs.Record.{Contents, contents_of, fields_number, end_of}
use Rattle.record.proofs.Reading.{fields-sized}
use Rattle.record_reading.specs.declared.Front.{Front}
use Rattle.record_reading.specs.declared.Sizes.{Sizes}
use Rattle.record_reading.specs.Front.{FrontOf, SizesOf}
use Rattle.record_reading.proofs.Fronts.{fields-room, contents-are}
use Rattle.report_text.specs.Entries.{entry_of, opened_entry}
use Rattle.report_text.proofs.Entries.{entry-opened}
use Rattle.report.proofs.open_fields.Goals as goal

-- what the record xs, whose fields are there, says of the fields a and b that are passed on
module _ (xs : List ℕ) (f : Front) (z : Sizes) (front : FrontOf xs f) (sizes : SizesOf xs z) (read : fields_number xs ≡ 0) (a b : List ℕ)
    (ea : a ≡ field_at xs (behind (behind 1 z.head) 16) z.challenge)
    (eb : b ≡ field_at xs (behind (behind (behind (behind 1 z.head) 16) z.challenge) z.corrections) z.opening) where
  challenge-said : a ≡ (contents_of xs).challenge
  challenge-said = ea ∙ sym (ap (λ (c : Contents). c.challenge) (contents-are xs z sizes f front))

  opening-said : b ≡ (contents_of xs).opening
  opening-said = eb ∙ sym (ap (λ (c : Contents). c.opening) (contents-are xs z sizes f front))

  challenge-sized : length a ≡ challenge_bytes f.resolved
  challenge-sized = ap length challenge-said ∙ (fields-sized xs read).1.0 ∙ ap challenge_bytes (sym front.resolved)

  opening-sized : length b ≡ opening_bytes f.resolved
  opening-sized = ap length opening-said ∙ (fields-sized xs read).1.1.1.0 ∙ ap opening_bytes (sym front.resolved)

  is-entry : (m : ℕ) → m ≡ end_of xs → opened_entry f.resolved a b m ≡ entry_of xs
  is-entry m e = rw (challenge-said, opening-said, front.resolved, e) (sym (entry-opened xs read))

pub fields_of-p-requires : goal.fields_of-p-requires
fields_of-p-requires c = fields-room c.args.bytes.now c.args.z c.requires.1 c.requires.2

pub opened-requires : goal.opened-requires
opened-requires c =
    let g = c.args in
    let p = c.requires in
    let e = c.fields_of-p.ensures in (
      p.0.allowed,
      challenge-sized g.bytes.now g.f g.z p.0 p.1 p.2 _ _ e.1 e.3,
      opening-sized g.bytes.now g.f g.z p.0 p.1 p.2 _ _ e.1 e.3,
    )

pub returns : goal.returns
returns c =
    let g = c.args in
    let p = c.requires in
    let e = c.fields_of-p.ensures in
    c.opened.ensures ∙ is-entry g.bytes.now g.f g.z p.0 p.1 p.2 _ _ e.1 e.3 g.end p.3
