-- The steps of the fields' loops, over the number of limbs and the polynomial, and known answers of the definitions.
pub mod Elements
pub mod KnownAnswers576
pub mod KnownAnswers768
pub mod Products
