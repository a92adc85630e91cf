-- The bytes of a block, as bytes of the output; the state that is encrypted, by the version.
use Rattle.std.proofs.Common.{◌≡◌, ℕ, ◌+◌, ◌*◌, ◌<◌, List, get_or, ap, ◌∙◌, ap₂, arith}
use Rattle.spec.specs.Aes.{state_of, bytes_of, cipher, key_expansion}
use Rattle.spec.specs.Generator.{add_to_upper_word, add_to_lower_word}
use Rattle.spec.specs.Version1.{add_to_iv}
use Rattle.job.specs.declared.Version.{Version}
use Rattle.job.specs.declared.Version.TheVariants.{One, Two}
use Rattle.job.specs.declared.Nonce.{Nonce}
use Rattle.job.specs.Versions.{counter_of, block_of, byte_of}

module _ (v : Version) (iv : List ℕ) (tweak n : ℕ) where
  pub counter-one : (y : List ℕ) (s : List (List ℕ)) → v ≡ One → y ≡ add_to_iv iv n → s ≡ state_of y → s ≡ counter_of v iv tweak n
  unfolding counter_of
  counter-one y s e ey es = rw e (es ∙ ap state_of ey)

  pub counter-two : (first s : List (List ℕ)) → v ≡ Two → first ≡ state_of iv → s ≡ add_to_lower_word (add_to_upper_word first tweak) n → s ≡ counter_of v iv tweak n
  unfolding counter_of
  counter-two first s e ef es = rw e (es ∙ ap (λ (i : List (List ℕ)). add_to_lower_word (add_to_upper_word i tweak) n) ef)

module _ (nk : ℕ) (key : List ℕ) (x : Nonce) where
  -- a block, from the state that is encrypted
  pub block-is : (n : ℕ) (s : List (List ℕ)) (r : List ℕ) → s ≡ counter_of x.version x.iv x.tweak n
      → r ≡ bytes_of (cipher (nk + 6) (key_expansion nk key) s) → r ≡ block_of nk key x n
  unfolding block_of
  block-is n s r es er = er ∙ ap (λ (y : List (List ℕ)). bytes_of (cipher (nk + 6) (key_expansion nk key) y)) es

  -- bytes of block n, from byte `from` of it on, as bytes of the output
  pub block-byte : (r : List ℕ) (n from i p : ℕ) → r ≡ block_of nk key x n → p ≡ 16 * n + from + i → from + i < 16
      → get_or r (from + i) 0 ≡ byte_of nk key x p
  unfolding byte_of
  block-byte r n from i p e ep h =
      ap (λ (b : List ℕ). get_or b (from + i) 0) e ∙ ap₂ (λ (m j : ℕ). get_or (block_of nk key x m) j 0) (omega arith) (omega arith)
