-- What hex text comes to, byte by byte.
use Prim.Native.Nat.{ℕ, ◌+◌, ◌*◌, ◌<◌, ◌≤◌, zero, suc}
use native.Mathlib.Omega.{arith}
use native.Mathlib.Numerals.{add-one}
use mathlib.Core.Path.{◌≡◌, refl, sym, ap}
use mathlib.Core.Bool.{Bool, true, false, cond, ◌&&◌}
use mathlib.Core.List.{List, [], ◌∷◌, ◌++◌, append-nil}
use lib.ListN.{length, take, drop, set, length-set, length-append, length-take}
use lib.Seq.{take-suc-set, append_snoc, take_at}
use lib.Dec.{eqb, leb}
use borrow.Author.Tests.{le-leb, lt-leb}
use Rattle.std.specs.Prelude.{Option, Some, None}
use Rattle.little_endian.specs.Stored.{stored}
use Rattle.little_endian.proofs.StoredLaws.{stored-front}
use Rattle.hex_text.specs.declared.Pending.{Pending}
use Rattle.hex_text.specs.Hex.{digit_of, joined, read_hex, fitting, still_read, bytes_in, or_text}

cond_same : (b : Bool) (o : Option (List ℕ)) → cond b o o ≡ o
cond_same true o = refl
cond_same false o = refl

joined-none : (o : Option (List ℕ)) → joined [] o ≡ o
joined-none None = refl
joined-none (Some l) = refl

-- before the first byte
pub at_first : (out text : List ℕ) → still_read out (record { len = 0; high = 16; sound = true }) text ≡ fitting (length out) (read_hex 16 text)
unfolding still_read
at_first out text = rw joined-none

-- a text that was found unsound stays so
pub nothing-more : (out : List ℕ) (p : Pending) (rest : List ℕ) → p.sound ≡ false → still_read out p rest ≡ None
unfolding still_read
nothing-more out p rest e = rw e

module _ (out : List ℕ) (p : Pending) (b : ℕ) (rest : List ℕ) where
  -- another byte
  pub not-hex : digit_of b ≡ 17 → still_read out p (b ∷ rest) ≡ None
  unfolding still_read read_hex
  not-hex e = rw e (cond_same p.sound None)

  -- a byte that is passed over
  pub gap : digit_of b ≡ 16 → still_read out p (b ∷ rest) ≡ still_read out p rest
  unfolding still_read read_hex
  gap e = rw e

  module _ (d : ℕ) (is : digit_of b ≡ d) (n17 : eqb d 17 ≡ false) (n16 : eqb d 16 ≡ false) where
    -- the first digit of two
    pub first-digit : p.sound ≡ true → p.high ≡ 16 → still_read out p (b ∷ rest) ≡ still_read out (record { len = p.len; high = d; sound = true }) rest
    unfolding still_read read_hex
    first-digit sound h = rw (sound, is, n17, n16, h)

    module _ (h : eqb p.high 16 ≡ false) where
      two : read_hex p.high (b ∷ rest) ≡ joined ((p.high * 16 + d) ∷ []) (read_hex 16 rest)
      unfolding read_hex
      two = rw (is, n17, n16, h)

      -- a byte for which there is no room
      pub no_room : p.len ≡ length out → still_read out p (b ∷ rest) ≡ None
      unfolding still_read
      no_room full = rw two (rw (go (read_hex 16 rest)) (cond_same p.sound None))
        where
          go : (o : Option (List ℕ)) → fitting (length out) (joined (take p.len out) (joined ((p.high * 16 + d) ∷ []) o)) ≡ None
          go None = refl
          go (Some l) = rw (lt-leb (length (take p.len out ++ ((p.high * 16 + d) ∷ l))) (length out) (simp (length-append, length-take) (omega (arith, full))))

      -- and one that is stored
      pub second-digit : p.sound ≡ true → p.len < length out → still_read out p (b ∷ rest) ≡ still_read (set out p.len (p.high * 16 + d)) (record { len = p.len + 1; high = 16; sound = true }) rest
      unfolding still_read
      second-digit sound l = rw (sound, two) (go (read_hex 16 rest))
        where
          v : ℕ
          v = p.high * 16 + d

          moved : (more : List ℕ) → take p.len out ++ (v ∷ more) ≡ take (p.len + 1) (set out p.len v) ++ more
          moved more = rw (add-one, take-suc-set out p.len v l) (sym (append_snoc (take p.len out) v more))

          go : (o : Option (List ℕ)) → fitting (length out) (joined (take p.len out) (joined (v ∷ []) o)) ≡ fitting (length (set out p.len v)) (joined (take (p.len + 1) (set out p.len v)) o)
          go None = refl
          go (Some more) = rw (length-set, moved more)

-- at the end of the text
pub at_end : (out : List ℕ) (p : Pending) → p.len ≤ length out → still_read out p [] ≡ cond (p.sound && eqb p.high 16) (Some (take p.len out)) None
unfolding still_read read_hex
at_end out p l = go p.sound (eqb p.high 16)
  where
    fits : leb (length (take p.len out ++ [])) (length out) ≡ true
    fits = le-leb (length (take p.len out ++ [])) (length out) (simp (length-append, length-take) (omega arith))

    go : (sound none_waits : Bool) → cond sound (fitting (length out) (joined (take p.len out) (cond none_waits (Some []) None))) None ≡ cond (sound && none_waits) (Some (take p.len out)) None
    go false h = refl
    go true false = refl
    go true true = rw fits (ap Some (append-nil (take p.len out)))

module _ (room : ℕ) (text out : List ℕ) where
  -- no byte is taken for the text's
  pub no_bytes : (r : Option ℕ) → ((len : ℕ) → r ≡ Some len → len ≡ 0) → or_text room text (bytes_in r out) ≡ fitting room (Some text)
  no_bytes None e = refl
  no_bytes (Some len) e = ap (λ (n : ℕ). or_text room text (Some (take n out))) (e len refl)

  -- and some are
  pub some_bytes : (len : ℕ) → 0 < len → len ≤ length out → or_text room text (bytes_in (Some len) out) ≡ bytes_in (Some len) out
  some_bytes len l m = go len out l m
    where
      go : (n : ℕ) (bytes : List ℕ) → 0 < n → n ≤ length bytes → or_text room text (Some (take n bytes)) ≡ Some (take n bytes)
      go zero bytes l m = absurd (omega arith)
      go (suc n) [] l m = absurd (omega arith)
      go (suc n) (b ∷ bytes) l m = refl

-- a text stored at the front of lent bytes
pub stored-text : (text out after : List ℕ) → length text ≤ length out → after ≡ stored out 0 text → Some (take (length text) after) ≡ fitting (length out) (Some text)
stored-text text out after l a =
    rw (a, stored-front out text l, le-leb (length text) (length out) l) (ap Some (take_at text (drop (length text) out) (length text) refl))
