-- Lists of calls and the pencil account with document 01's test for 19, which document 02's R-7 takes out: whatever the calls, they are never told 19, and they are told what they are told without the test.
use Prim.Native.Nat.{ℕ}
use mathlib.Core.Path.{◌≡◌, refl, ap}
use mathlib.Core.List.{List, [], ◌∷◌}
use Rattle.refusal.specs.Outcome.{Outcome, refused, answered, ◌>>=◌, ◌>>◌}
use Rattle.zone.specs.declared.rules.Rule.{Rule}
use Rattle.zone.specs.declared.ticks.UtcTick.{UtcTick}
use Rattle.rows.specs.Row.{check_row}
use Rattle.tally.specs.declared.tallies.Tally.{Tally}
use Rattle.tally.specs.Answers.{or_else}
use Rattle.tally.proofs.Number19.{check_run19, book19, same-run, same-book}
use Rattle.account.specs.Calls.{Call, book, save, read, Told, booked, told_of, tally_after, Outcomes, calls}
use Rattle.account.specs.Pencil.{Pencil, tally_of, noting, or_kept, pencil_told, pencil_after, pencil}
use Rattle.account.proofs.Numbers.{TallyNumber, AllTell, all-tell-more, calls-give, pencil-gives}

abbrev Not19 : ℕ → Type 0
Not19 n = n ≡ 19 → ⊥

not-19 : (n : ℕ) → TallyNumber n → Not19 n
not-19 n k e = rw e at k

-- ---- the library's calls: the test is in a booking alone
abbrev pub told_of19 : List Rule → Tally → Call → Told
told_of19 row t (book a b) = booked (book19 row t a b)
told_of19 row t (save out) = told_of row t (save out)
told_of19 row t (read s) = told_of row t (read s)

abbrev pub tally_after19 : List Rule → Tally → Call → Tally
tally_after19 row t (book a b) = or_else (book19 row t a b) t
tally_after19 row t (save out) = tally_after row t (save out)
tally_after19 row t (read s) = tally_after row t (read s)

abbrev calls19 : List Rule → Tally → List Call → Outcomes
calls19 row t [] = record { told = []; tally = t }
calls19 row t (c ∷ cs) =
    let rest = calls19 row (tally_after19 row t c) cs in
    record { told = told_of19 row t c ∷ rest.told; tally = rest.tally }

pub same-told : (row : List Rule) (t : Tally) (c : Call) → told_of19 row t c ≡ told_of row t c
unfolding told_of
same-told row t (book a b) = ap booked (same-book row t a b)
same-told row t (save out) = refl
same-told row t (read s) = refl

pub same-tally : (row : List Rule) (t : Tally) (c : Call) → tally_after19 row t c ≡ tally_after row t c
unfolding tally_after
same-tally row t (book a b) = ap (λ (o : Outcome Tally). or_else o t) (same-book row t a b)
same-tally row t (save out) = refl
same-tally row t (read s) = refl

-- THE LAW: every outcome is the same
pub same-calls : (row : List Rule) (t : Tally) (cs : List Call) → calls19 row t cs ≡ calls row t cs
unfolding calls
same-calls row t [] = refl
same-calls row t (c ∷ cs) = rw (same-told row t c, same-tally row t c, same-calls row (tally_after row t c) cs)

-- THE LAW: 19 is never told
pub calls-never-19 : (row : List Rule) (t : Tally) (cs : List Call) → AllTell Not19 (calls19 row t cs).told
calls-never-19 row t cs = rw (same-calls row t cs) (all-tell-more TallyNumber Not19 not-19 (calls row t cs).told (calls-give row t cs))

-- ---- the pencil account
abbrev noting19 : List Rule → Pencil → UtcTick → UtcTick → Outcome Pencil
noting19 row p a b = do
  check_row row
  check_run19 row p.end a b
  answered (record { end = b; noted = record { from = a; to = b } ∷ p.noted })

abbrev pencil_after19 : List Rule → Pencil → Call → Pencil
pencil_after19 row p (book a b) = or_kept (noting19 row p a b) p
pencil_after19 row p (save out) = pencil_after row p (save out)
pencil_after19 row p (read s) = pencil_after row p (read s)

abbrev pencil_told19 : List Rule → Pencil → Call → Told
pencil_told19 row p (book a b) = booked (noting19 row p a b >>= (λ q. answered (tally_of row q)))
pencil_told19 row p (save out) = pencil_told row p (save out)
pencil_told19 row p (read s) = pencil_told row p (read s)

unfoldable pub pencil19 : List Rule → Pencil → List Call → Outcomes
pencil19 row p [] = record { told = []; tally = tally_of row p }
pencil19 row p (c ∷ cs) =
    let rest = pencil19 row (pencil_after19 row p c) cs in
    record { told = pencil_told19 row p c ∷ rest.told; tally = rest.tally }

same-noting : (row : List Rule) (p : Pencil) (a b : UtcTick) → noting19 row p a b ≡ noting row p a b
unfolding noting
same-noting row p a b = go (check_row row) refl
  where
    go : (o : Outcome (Unit {0})) → check_row row ≡ o → noting19 row p a b ≡ noting row p a b
    go (refused n) e = rw e
    go (answered ok) e = rw (e, same-run row p.end a b e)

same-page : (row : List Rule) (p : Pencil) (c : Call) → pencil_after19 row p c ≡ pencil_after row p c
unfolding pencil_after
same-page row p (book a b) = ap (λ (o : Outcome Pencil). or_kept o p) (same-noting row p a b)
same-page row p (save out) = refl
same-page row p (read s) = refl

same-pencil-told : (row : List Rule) (p : Pencil) (c : Call) → pencil_told19 row p c ≡ pencil_told row p c
unfolding pencil_told
same-pencil-told row p (book a b) = ap (λ (o : Outcome Pencil). booked (o >>= (λ q. answered (tally_of row q)))) (same-noting row p a b)
same-pencil-told row p (save out) = refl
same-pencil-told row p (read s) = refl

-- THE LAW: every outcome is the same
pub same-pencil : (row : List Rule) (p : Pencil) (cs : List Call) → pencil19 row p cs ≡ pencil row p cs
unfolding pencil pencil19
same-pencil row p [] = refl
same-pencil row p (c ∷ cs) = rw (same-pencil-told row p c, same-page row p c, same-pencil row (pencil_after row p c) cs)

-- THE LAW: 19 is never told
pub pencil-never-19 : (row : List Rule) (p : Pencil) (cs : List Call) → AllTell Not19 (pencil19 row p cs).told
pencil-never-19 row p cs = rw (same-pencil row p cs) (all-tell-more TallyNumber Not19 not-19 (pencil row p cs).told (pencil-gives row p cs))
