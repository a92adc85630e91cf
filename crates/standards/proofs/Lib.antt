-- The proofs of the statements in ../specs, the known answers, and a worked example too long for crates/spec.
pub mod Recognition
pub mod KnownAnswers
pub mod LongMessages
pub mod LongRowsExample
pub mod UnevenExample
