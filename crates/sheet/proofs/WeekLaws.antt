-- What is put for each weekday.
use Prim.Native.Nat.{ℕ}
use mathlib.Core.Path.{◌≡◌, sym, ap, ◌∙◌}
use mathlib.Core.List.{List, [], ◌∷◌, ◌++◌, append-nil, append_assoc}
use lib.ListN.{get_or, length}
use Rattle.std.proofs.Common.{Bor}
use Rattle.std.specs.List.{flat_map, zip}
use Rattle.std.proofs.lemmas.Grind.{flat_map-append}
use Rattle.totals.proofs.TableLaws.{table_is}
use Rattle.page.specs.Pages.{text_of, extended}
use Rattle.page.specs.declared.Page.{Page}
use Rattle.page.proofs.PageLaws.{both}

module _ (piece : List ℕ → ℕ → List ℕ) (first : Page) where
  abbrev pub piece_of : Bor (List ℕ) × ℕ → List ℕ
  piece_of p = piece p.0.now p.1

  -- the pieces of so many weekdays are put on the first page
  abbrev pub Shows : List (Bor (List ℕ) × ℕ) → Page → Type 0
  Shows ps page = text_of page ≡ extended (text_of first) (flat_map piece_of ps)

  pub one_more : (a b : Page) (ps : List (Bor (List ℕ) × ℕ)) (p : Bor (List ℕ) × ℕ) → Shows ps a → text_of b ≡ extended (text_of a) (piece p.0.now p.1) → Shows (ps ++ p ∷ []) b
  one_more a b ps p e f =
      both _ _ _ e f ∙ ap (extended (text_of first)) (sym (flat_map-append piece_of ps (p ∷ []) ∙ ap (λ (l : List ℕ). flat_map piece_of ps ++ l) (append-nil (piece_of p))))

  pub week : {a b c d e f g : Bor (List ℕ)} {names : List (Bor (List ℕ))} (last : Page) (totals : List ℕ) → length totals ≡ 7
      → names ≡ a ∷ b ∷ c ∷ d ∷ e ∷ f ∷ g ∷ [] → Shows (zip names totals) last
      → text_of last ≡ extended (text_of first) (piece a.now (get_or totals 0 0) ++ piece b.now (get_or totals 1 0) ++ piece c.now (get_or totals 2 0) ++ piece d.now (get_or totals 3 0) ++ piece e.now (get_or totals 4 0) ++ piece f.now (get_or totals 5 0) ++ piece g.now (get_or totals 6 0))
  week last totals seven named shows =
      shows ∙ ap (extended (text_of first)) ((λ i. flat_map piece_of (zip (named i) (table_is 7 totals seven i))) ∙ simp (append-nil, append_assoc))
