-- Laws of the steps as the code computes them: the S-box's table, MIXCOLUMNS on packed words.
pub mod SboxEntries
pub mod Xtimes
pub mod PackedWords
pub mod MixedColumns
