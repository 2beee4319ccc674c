-- What a look at a definition tells, as the code comes to it.
use Prim.Native.Nat.{ℕ, ◌+◌, ◌≤◌, ◌<◌}
use mathlib.Core.Path.{◌≡◌, refl, sym, ◌∙◌, ap}
use mathlib.Core.Bool.{Bool, true, false}
use mathlib.Core.List.{List}
use lib.ListN.{length}
use lib.Dec.{leb}
use borrow.Author.Tests.{le-leb, lt-leb}
use Rattle.refusal.specs.Outcome.{Outcome, refused, answered, require, ◌>>=◌, ◌>>◌}
use Rattle.refusal.specs.Lent.{fitting}
use Rattle.definition.specs.declared.answers.Look.{Look}
use Rattle.definition.specs.declared.walk.Walk.{Walk}
use Rattle.definition.specs.declared.header.Header.{Header}
use Rattle.definition.specs.Definition.{Definition, read_header, read_definition, read_into}
use Rattle.definition.specs.Steps.{walk_over, walk_body}
use Rattle.definition.specs.Places.{first_kept, first_rule, look_of}
use Rattle.definition.proofs.walk.Known.{headed}
use Rattle.definition.proofs.walk.Calls.{by-header, zero-add}

module _ (s : List ℕ) (room : ℕ) where
  -- the room, then what is told of so many rules
  abbrev looked : ℕ → Look
  looked kept = record { kept = kept; start = first_rule s }

  abbrev told : ℕ → Outcome Look
  told kept = require (leb kept room) 13 >> answered (looked kept)

  by-count : look_of s room ≡ (read_definition s >>= λ d. told (length d.rules))
  unfolding read_into
  by-count = go (read_definition s)
    where
      go : (o : Outcome Definition) → ((o >>= λ d. fitting d.rules room) >>= λ rules. answered (looked (length rules))) ≡ (o >>= λ d. told (length d.rules))
      go (refused n) = refl
      go (answered d) = test (leb (length d.rules) room)
        where
          test : (b : Bool) → ((require b 13 >> answered d.rules) >>= λ rules. answered (looked (length rules))) ≡ (require b 13 >> answered (looked (length d.rules)))
          test true = refl
          test false = refl

  -- ---- the header is refused
  pub header-refused : {n : ℕ} → read_header s ≡ refused n → look_of s room ≡ refused n
  unfolding read_into read_definition
  header-refused e = rw e

  module _ (h : Header) (eh : read_header s ≡ answered h) where
    by-walk : look_of s room ≡ (walk_body s h >>= λ w. told w.kept)
    unfolding walk_over
    by-walk = by-count ∙ by-header s (λ d. told (length d.rules)) (λ w. told w.kept) h (λ k. ap told (sym (zero-add (length k.rules)))) eh

    -- ---- what follows it is refused
    pub body-refused : {n : ℕ} → walk_body s h ≡ refused n → look_of s room ≡ refused n
    body-refused e = by-walk ∙ rw e

    module _ (w : Walk) (ew : walk_body s h ≡ answered w) where
      -- ---- the row is too short
      pub no-room : room < w.kept → look_of s room ≡ refused 13
      no-room l = by-walk ∙ rw (ew, lt-leb w.kept room l)

      -- ---- the rules are told
      pub told-of : {start : ℕ} → w.kept ≤ room → start ≡ first_kept s (4 + h.size) → look_of s room ≡ answered (record { kept = w.kept; start = start })
      told-of l p =
          by-walk
          ∙ rw (ew, le-leb w.kept room l, p, ← (headed s h eh).size)
