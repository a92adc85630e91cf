-- A small record, computed in each version: what reading gives of it, of its beginnings and of wrong bytes in it.
use Prim.Native.Nat.{ℕ}
use mathlib.Core.Path.{◌≡◌, refl}
use mathlib.Core.List.{List, [], ◌∷◌, ◌++◌}
use lib.ListN.{length, take, set}
use Rattle.spec.specs.Bytes.{tabulate, zeros, all_zero, number, digits}
use Rattle.spec.specs.Shapes.{resolved, faest128f, level, deeper, depth_of, node_bytes, challenge_bytes, leaf_commitment_bytes, hash_bytes, shape_ok, opening_bytes, corrections_bytes}
use Rattle.spec.specs.Calls.{row_ok}
use Rattle.record.specs.Fields.{field_ok, field_of}
use Rattle.spec.specs.Bytes.{big_endian, big_endian_bytes}
use Rattle.record.specs.Record.{head_bytes, version_ok, shape_in, row_in, corrections_place, opening_place, commitment_place, record_end, rest_ok, Contents, contents_of, read_number, head_number, version_for, head_for, record_of, head_of_version1, record_of_version1}

-- one vector of two entries, rows of eight bits: the corrections have no bytes
said : Contents
said =
    record {
      shape = record { tau = 1; k = 1; w = 127; t = 1; level = 128; kind = 0 };
      row = 8;
      iv = zeros 16;
      challenge = zeros 16;
      corrections = [];
      opening = zeros 64;
      commitment = zeros 32;
    }

small : List ℕ
small = record_of said

first : List ℕ
first = record_of_version1 said

-- the same with Even-Mansour leaves: their commitments have two blocks
em-said : Contents
em-said =
    record {
      shape = record { tau = 1; k = 1; w = 127; t = 1; level = 128; kind = 1 };
      row = 8;
      iv = zeros 16;
      challenge = zeros 16;
      corrections = [];
      opening = zeros 48;
      commitment = zeros 32;
    }

third : List ℕ
third = record_of em-said

-- its front, byte by byte, and its length: version 2 has the level, in bytes, behind the row length
front : take 19 small ≡ 2 ∷ 0 ∷ 0 ∷ 0 ∷ 10 ∷ 1 ∷ 1 ∷ 127 ∷ 0 ∷ 1 ∷ 0 ∷ 0 ∷ 0 ∷ 8 ∷ 16 ∷ 0 ∷ 0 ∷ 0 ∷ 16 ∷ []
unfolding said small tabulate zeros digits big_endian_bytes field_of version_for head_for record_of
front = refl

long : length small ≡ 163
unfolding said small tabulate zeros digits big_endian_bytes field_of version_for head_for record_of
long = refl

first-front : take 18 first ≡ 1 ∷ 0 ∷ 0 ∷ 0 ∷ 9 ∷ 1 ∷ 1 ∷ 127 ∷ 0 ∷ 1 ∷ 0 ∷ 0 ∷ 0 ∷ 8 ∷ 0 ∷ 0 ∷ 0 ∷ 16 ∷ []
unfolding said first tabulate zeros digits big_endian_bytes field_of head_of_version1 record_of_version1
first-front = refl

first-long : length first ≡ 162
unfolding said first tabulate zeros digits big_endian_bytes field_of head_of_version1 record_of_version1
first-long = refl

third-front : take 20 third ≡ 3 ∷ 0 ∷ 0 ∷ 0 ∷ 11 ∷ 1 ∷ 1 ∷ 127 ∷ 0 ∷ 1 ∷ 0 ∷ 0 ∷ 0 ∷ 8 ∷ 16 ∷ 1 ∷ 0 ∷ 0 ∷ 0 ∷ 16 ∷ []
unfolding em-said third tabulate zeros digits big_endian_bytes field_of version_for head_for record_of
third-front = refl

third-long : length third ≡ 148
unfolding em-said third tabulate zeros digits big_endian_bytes field_of version_for head_for record_of
third-long = refl

-- whole; no byte; the version alone; another version; the version of the shorter head; a length of the head that is not 10; tau 0; a row of 12 bits; a byte missing; a byte left over
reads :
    (read_number small ≡ 0)
    × (read_number [] ≡ 9)
    × (read_number (2 ∷ []) ≡ 10)
    × (read_number (set small 0 4) ≡ 9)
    × (read_number (set small 0 1) ≡ 10)
    × (read_number (set small 4 9) ≡ 10)
    × (read_number (set small 5 0) ≡ 1)
    × (read_number (set small 13 12) ≡ 2)
    × (read_number (take 162 small) ≡ 10)
    × (read_number (small ++ (0 ∷ [])) ≡ 10)
unfolding said small tabulate zeros all_zero number digits resolved faest128f level deeper depth_of node_bytes challenge_bytes leaf_commitment_bytes hash_bytes shape_ok opening_bytes corrections_bytes row_ok big_endian big_endian_bytes field_ok field_of head_bytes version_ok shape_in row_in corrections_place opening_place commitment_place record_end rest_ok contents_of read_number version_for head_for record_of
reads = (refl, refl, refl, refl, refl, refl, refl, refl, refl, refl)

-- of version 1: whole, and the same contents; the version of the longer head; another length of the head; tau 0; a byte left over
first_reads :
    (read_number first ≡ 0)
    × (contents_of first ≡ contents_of small)
    × (read_number (set first 0 2) ≡ 10)
    × (read_number (set first 4 10) ≡ 10)
    × (read_number (set first 5 0) ≡ 1)
    × (read_number (first ++ (0 ∷ [])) ≡ 10)
unfolding said first head_of_version1 record_of_version1 small tabulate zeros all_zero number digits resolved faest128f level deeper depth_of node_bytes challenge_bytes leaf_commitment_bytes hash_bytes shape_ok opening_bytes corrections_bytes row_ok big_endian big_endian_bytes field_ok field_of head_bytes version_ok shape_in row_in corrections_place opening_place commitment_place record_end rest_ok contents_of read_number version_for head_for record_of
first_reads = (refl, refl, refl, refl, refl, refl)

-- of version 3: whole, and its contents; another version; the version of the shorter head; another length of the head; kind 0, 2 and 255; a kind that is none beside a wrong row length; a
-- level that is none; a byte missing; a byte left over
third-reads :
    (read_number third ≡ 0)
    × (contents_of third ≡ em-said)
    × (read_number (set third 0 4) ≡ 9)
    × (read_number (set third 0 2) ≡ 10)
    × (read_number (set third 4 10) ≡ 10)
    × (read_number (set third 15 0) ≡ 1)
    × (read_number (set third 15 2) ≡ 1)
    × (read_number (set third 15 255) ≡ 1)
    × (read_number (set (set third 15 0) 13 12) ≡ 1)
    × (read_number (set third 14 17) ≡ 1)
    × (read_number (take 147 third) ≡ 10)
    × (read_number (third ++ (0 ∷ [])) ≡ 10)
unfolding em-said third tabulate zeros all_zero number digits resolved faest128f level deeper depth_of node_bytes challenge_bytes leaf_commitment_bytes hash_bytes shape_ok opening_bytes corrections_bytes row_ok big_endian big_endian_bytes field_ok field_of head_bytes version_ok shape_in row_in corrections_place opening_place commitment_place record_end rest_ok contents_of read_number version_for head_for record_of
third-reads = (refl, refl, refl, refl, refl, refl, refl, refl, refl, refl, refl, refl)

-- the head of a version 3 record cut to the ten bytes of version 2, and a version 2 record with the version byte 3
third-short : (read_number (3 ∷ 0 ∷ 0 ∷ 0 ∷ 10 ∷ 1 ∷ 1 ∷ 127 ∷ 0 ∷ 1 ∷ 0 ∷ 0 ∷ 0 ∷ 8 ∷ 16 ∷ []) ≡ 10) × (read_number (set small 0 3) ≡ 10)
unfolding said small tabulate zeros all_zero number digits resolved faest128f level deeper depth_of node_bytes challenge_bytes leaf_commitment_bytes hash_bytes shape_ok opening_bytes corrections_bytes row_ok big_endian big_endian_bytes field_ok field_of head_bytes version_ok shape_in row_in corrections_place opening_place commitment_place record_end rest_ok contents_of read_number version_for head_for record_of
third-short = (refl, refl)

-- a level that is none is a wrong shape; so is another level, which the shape does not fill
levels :
    (read_number (set small 14 0) ≡ 1)
    × (read_number (set small 14 15) ≡ 1)
    × (read_number (set small 14 17) ≡ 1)
    × (read_number (set small 14 33) ≡ 1)
    × (read_number (set small 14 128) ≡ 1)
    × (read_number (set small 14 24) ≡ 1)
unfolding said small tabulate zeros all_zero number digits resolved faest128f level deeper depth_of node_bytes challenge_bytes leaf_commitment_bytes hash_bytes shape_ok opening_bytes corrections_bytes row_ok big_endian big_endian_bytes field_ok field_of head_bytes version_ok shape_in row_in corrections_place opening_place commitment_place record_end rest_ok contents_of read_number version_for head_for record_of
levels = (refl, refl, refl, refl, refl, refl)

-- four zeros are the default at level 128 in versions 1 and 2, and refused at another level and in version 3
zero-shape : List ℕ → List ℕ
zero-shape x = set (set (set (set x 5 0) 6 0) 7 0) 9 0

zeros-read :
    (head_number (zero-shape small) ≡ 0)
    × (resolved (contents_of (zero-shape small)).shape ≡ faest128f)
    × (head_number (set (zero-shape small) 14 24) ≡ 1)
    × (head_number (set (zero-shape small) 14 32) ≡ 1)
    × (head_number (zero-shape first) ≡ 0)
    × (resolved (contents_of (zero-shape first)).shape ≡ faest128f)
    × (head_number (zero-shape third) ≡ 1)
    × (head_number (set (zero-shape third) 15 0) ≡ 1)
unfolding said em-said first third zero-shape head_of_version1 record_of_version1 head_number small tabulate zeros all_zero number digits resolved faest128f level deeper depth_of node_bytes challenge_bytes leaf_commitment_bytes hash_bytes shape_ok opening_bytes corrections_bytes row_ok big_endian big_endian_bytes field_ok field_of head_bytes version_ok shape_in row_in corrections_place opening_place commitment_place record_end rest_ok contents_of read_number version_for head_for record_of
zeros-read = (refl, refl, refl, refl, refl, refl, refl, refl)

-- the order: version before the head's length, that before the shape, that before the row length, that before the other fields
order :
    (read_number (set (set small 0 4) 4 9) ≡ 9)
    × (read_number (set (set small 4 9) 5 0) ≡ 10)
    × (read_number (set (set small 5 0) 13 12) ≡ 1)
    × (read_number (take 162 (set small 13 12)) ≡ 2)
unfolding said small tabulate zeros all_zero number digits resolved faest128f level deeper depth_of node_bytes challenge_bytes leaf_commitment_bytes hash_bytes shape_ok opening_bytes corrections_bytes row_ok big_endian big_endian_bytes field_ok field_of head_bytes version_ok shape_in row_in corrections_place opening_place commitment_place record_end rest_ok contents_of read_number version_for head_for record_of
order = (refl, refl, refl, refl)
