-- The table of named sets, and the contracts of the calls that take nothing else, also as a C host makes them.
pub mod NamedSets
pub mod NamedCalls
