-- The definitions, in the order in which to read them. Nothing is proved here: ../proofs has the worked examples, crates/standards,
-- crates/laws, crates/planning_laws and crates/theorems the laws. "Document 000" is the FAEST specification, version 2.0, "document 01" the requirements paper,
-- "document 02" the later requests; docs/DECISIONS.md says how their open points are read.

-- strings of bytes, polynomials over GF(2)
pub mod Bytes
pub mod Polynomials
-- FIPS 197
pub mod Gf256
pub mod Aes
-- FIPS 202
pub mod Keccak
pub mod Sponge
-- document 000, section 3.3 and the leaf hash of section 5.1
pub mod Generator
pub mod Hashes
pub mod LeafHash
-- the tree, the challenge and the shape that joins them
pub mod Tree
pub mod Challenge
pub mod Shapes
-- document 000, section 5
pub mod Primitives
pub mod Leaves
pub mod Rows
pub mod Signer
pub mod Verifier
-- the five calls of document 01, and document 02, E1: commit and reconstruct of a stretch of the rows
pub mod Calls
-- document 02, E4: the calls for a C host
pub mod HostCalls
-- document 02, E12: version 1.1, its calls, and these for a C host
pub mod Version1
pub mod Version1Calls
pub mod Version1HostCalls
