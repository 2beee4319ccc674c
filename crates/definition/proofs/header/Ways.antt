-- Each way out of a header, as the code comes to it.
use Prim.Native.Nat.{ℕ, ◌+◌, ◌*◌, ◌≤◌, ◌<◌}
use mathlib.Core.Path.{◌≡◌, refl}
use mathlib.Core.Bool.{Bool, true, false}
use mathlib.Core.List.{List}
use lib.ListN.{length, get_or}
use lib.Dec.{leb, eqb}
use native.Mathlib.Omega.{arith}
use borrow.Author.Tests.{le-leb, lt-leb, ne_eqb, eq-eqb}
use Rattle.refusal.specs.Outcome.{refused, answered}
use Rattle.little_endian.specs.Fields.{part, unsigned_at}
use Rattle.little_endian.proofs.FieldLaws.{byte-field}
use Rattle.utf16.specs.Surrogates.{has_lone_surrogate}
use Rattle.calendar.specs.Ranges.{within}
use Rattle.definition.specs.Definition.{size_ok, read_header}

module _ (s : List ℕ) where
  pub no-major : (length s < 1) → refused 1 ≡ read_header s
  unfolding read_header
  no-major n = rw (lt-leb 1 (length s) n)

  module _ (a1 : 1 ≤ length s) where
    has1 : leb 1 (length s) ≡ true
    has1 = le-leb 1 (length s) a1

    major : unsigned_at s 0 1 ≡ get_or s 0 0
    major = byte-field s 0 a1

    pub other-major : (get_or s 0 0 ≡ 2 → ⊥) → refused 3 ≡ read_header s
    unfolding read_header
    other-major n = rw (has1, major, ne_eqb (get_or s 0 0) 2 n)

    module _ (a2 : get_or s 0 0 ≡ 2) where
      is2 : eqb (get_or s 0 0) 2 ≡ true
      is2 = eq-eqb (get_or s 0 0) 2 a2

      pub no-flags : (length s < 6) → refused 1 ≡ read_header s
      unfolding read_header
      no-flags n = go (leb 2 (length s)) (leb 4 (length s)) refl refl
        where
          go : (b c : Bool) → leb 2 (length s) ≡ b → leb 4 (length s) ≡ c → refused 1 ≡ read_header s
          go true true e f = rw (has1, major, is2, e, f, lt-leb 6 (length s) n)
          go true false e f = rw (has1, major, is2, e, f)
          go false c e f = rw (has1, major, is2, e)

      module _ (a3 : 6 ≤ length s) where
        has2 : leb 2 (length s) ≡ true
        has2 = le-leb 2 (length s) (omega arith)

        has4 : leb 4 (length s) ≡ true
        has4 = le-leb 4 (length s) (omega arith)

        has6 : leb 6 (length s) ≡ true
        has6 = le-leb 6 (length s) a3

        module _ (flags : ℕ) (ef : flags ≡ unsigned_at s 4 2) where
          pub other-flags : (flags ≡ 2 → ⊥) → refused 4 ≡ read_header s
          unfolding read_header
          other-flags n = rw (has1, major, is2, has2, has4, has6, ← ef, ne_eqb flags 2 n)

          module _ (a4 : flags ≡ 2) where
            flags2 : eqb flags 2 ≡ true
            flags2 = eq-eqb flags 2 a4

            pub no-units : (length s < 8) → refused 1 ≡ read_header s
            unfolding read_header
            no-units n = rw (has1, major, is2, has2, has4, has6, ← ef, flags2, lt-leb 8 (length s) n)

            module _ (a5 : 8 ≤ length s) where
              has8 : leb 8 (length s) ≡ true
              has8 = le-leb 8 (length s) a5

              module _ (units : ℕ) (eu : units ≡ unsigned_at s 6 2) where
                pub too_long : (within 0 260 units ≡ false) → refused 5 ≡ read_header s
                unfolding read_header
                too_long n = rw (has1, major, is2, has2, has4, has6, ← ef, flags2, has8, ← eu, n)

                module _ (a6 : within 0 260 units ≡ true) where
                  pub no_name : (length s < 8 + 2 * units) → refused 1 ≡ read_header s
                  unfolding read_header
                  no_name n = rw (has1, major, is2, has2, has4, has6, ← ef, flags2, has8, ← eu, a6, lt-leb (8 + 2 * units) (length s) n)

                  module _ (a7 : 8 + 2 * units ≤ length s) where
                    has-name : leb (8 + 2 * units) (length s) ≡ true
                    has-name = le-leb (8 + 2 * units) (length s) a7

                    second : unsigned_at s 1 1 ≡ get_or s 1 0
                    second = byte-field s 1 (omega arith)

                    pub lone : (has_lone_surrogate (part s 8 (2 * units)) ≡ true) → refused 20 ≡ read_header s
                    unfolding read_header
                    lone n = rw (has1, major, is2, has2, has4, has6, ← ef, flags2, has8, ← eu, a6, has-name, n)

                    module _ (whole : has_lone_surrogate (part s 8 (2 * units)) ≡ false) where
                      module _ (minor size : ℕ) (em : minor ≡ get_or s 1 0) (es : size ≡ unsigned_at s 2 2) where
                        pub wrong_size : (size_ok minor size (6 + 2 * units) ≡ false) → refused 2 ≡ read_header s
                        unfolding read_header
                        wrong_size n = rw (has1, major, is2, has2, has4, has6, ← ef, flags2, has8, ← eu, a6, has-name, whole, second, ← em, ← es, n)

                        module _ (a8 : size_ok minor size (6 + 2 * units) ≡ true) where
                          pub no-count : (length s < 8 + 2 * units + 2) → refused 1 ≡ read_header s
                          unfolding read_header
                          no-count n = rw (has1, major, is2, has2, has4, has6, ← ef, flags2, has8, ← eu, a6, has-name, whole, second, ← em, ← es, a8, lt-leb (8 + 2 * units + 2) (length s) n)

                          module _ (a9 : 8 + 2 * units + 2 ≤ length s) where
                            has-count : leb (8 + 2 * units + 2) (length s) ≡ true
                            has-count = le-leb (8 + 2 * units + 2) (length s) a9

                            module _ (count : ℕ) (ec : count ≡ unsigned_at s (8 + 2 * units) 2) where
                              pub other-count : (within 1 1024 count ≡ false) → refused 6 ≡ read_header s
                              unfolding read_header
                              other-count n = rw (has1, major, is2, has2, has4, has6, ← ef, flags2, has8, ← eu, a6, has-name, whole, second, ← em, ← es, a8, has-count, ← ec, n)

                              module _ (a10 : within 1 1024 count ≡ true) where
                                pub past_bytes : (length s < 4 + size) → refused 1 ≡ read_header s
                                unfolding read_header
                                past_bytes n = rw (has1, major, is2, has2, has4, has6, ← ef, flags2, has8, ← eu, a6, has-name, whole, second, ← em, ← es, a8, has-count, ← ec, a10, lt-leb (4 + size) (length s) n)

                                module _ (a11 : 4 + size ≤ length s) where
                                  pub header_is : answered (record { minor = minor; size = size; units = units; count = count }) ≡ read_header s
                                  unfolding read_header
                                  header_is = rw (has1, major, is2, has2, has4, has6, ← ef, flags2, has8, ← eu, a6, has-name, whole, second, ← em, ← es, a8, has-count, ← ec, a10, le-leb (4 + size) (length s) a11)
