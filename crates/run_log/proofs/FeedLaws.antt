-- A log fed in any pieces comes to what the whole of it does.
use Prim.Native.Nat.{ℕ, suc, ◌+◌, ◌-◌, ◌≤◌, ◌<◌, min}
use native.Mathlib.Omega.{arith}
use mathlib.Core.Path.{◌≡◌, refl, sym, ap, ◌∙◌}
use mathlib.Core.Bool.{Bool, true, false, cond}
use mathlib.Core.List.{List, [], ◌∷◌, ◌++◌, foldl, tail, append-nil, append_assoc}
use lib.ListN.{length, get_or, take, drop, length-append, drop_of_length-le, take-append-drop}
use lib.Seq.{append_snoc, take_all, length-take-le, drop-cons, drop-append-add}
use native.Mathlib.Numerals.{add-one}
use denote.Param.Members.{Mut, Called}
use denote.Ref.{Bor}
use Rattle.std.specs.Fn.{ComputesKey}
use Rattle.std.specs.List.{IsFirstMatchOrLen}
use Rattle.std.proofs.lemmas.List.{get_or_append_left}
use Rattle.std.proofs.lemmas.List.Sorted.{answers_always}
use lib.Dec.{eqb, ltb}
use borrow.Author.Tests.{lt-ltb, le-ltb, ltb-true, ltb-false, eqb-true, ne_eqb}
use Rattle.zone.specs.declared.rules.Rule.{Rule}
use Rattle.run_log.specs.declared.Log.{Log}
use Rattle.run_log.specs.declared.Job.{Job}
use Rattle.run_log.specs.Log.{line_taken, first_line, lines_of}
use Rattle.run_log.specs.Feed.{Fed, begun, halted, carrying, byte_fed, fed, end_of, too_long, lines_within, log_taken, part_fed, state_of, job_within}
use Rattle.run_log.proofs.LineLaws.{first-and-rest}

-- all pieces, one behind the other
unfoldable pub joined : List (List ℕ) → List ℕ
joined [] = []
joined (p ∷ ps) = p ++ joined ps

-- ---- bytes without a line end
-- a line end is no part of its line
no-first : (x : ℕ) (rest : List ℕ) → eqb x 10 ≡ true → first_line (x ∷ rest) ≡ x ∷ rest → ⊥
unfolding first_line
no-first x rest t e = omega (arith, ap length (rw t at e))

same-tail : (x : ℕ) (rest : List ℕ) → eqb x 10 ≡ false → first_line (x ∷ rest) ≡ x ∷ rest → first_line rest ≡ rest
unfolding first_line
same-tail x rest t e = ap tail (rw t at e)

none_first : first_line [] ≡ []
unfolding first_line
none_first = refl

more-first : (b : ℕ) (text : List ℕ) → eqb b 10 ≡ false → first_line (b ∷ text) ≡ b ∷ first_line text
unfolding first_line
more-first b text t = rw t

ltb-suc : (a b : ℕ) → ltb (suc a) (suc b) ≡ ltb a b
ltb-suc a b = go (ltb a b) refl
  where
    go : (t : Bool) → ltb a b ≡ t → ltb (suc a) (suc b) ≡ ltb a b
    go true e = lt-ltb (suc a) (suc b) (omega (arith, ltb-true a b e)) ∙ sym e
    go false e = le-ltb (suc a) (suc b) (omega (arith, ltb-false a b e)) ∙ sym e

-- what follows goes on with the line
first_on : (rest text : List ℕ) → first_line rest ≡ rest → first_line (rest ++ text) ≡ rest ++ first_line text
unfolding first_line
first_on [] text e = refl
first_on (x ∷ rest) text e = go (eqb x 10) refl (first_on rest text)
  where
    go : (t : Bool) → eqb x 10 ≡ t → (first_line rest ≡ rest → first_line (rest ++ text) ≡ rest ++ first_line text) → first_line (x ∷ (rest ++ text)) ≡ x ∷ (rest ++ first_line text)
    go true t h = absurd (no-first x rest t e)
    go false t h = rw t (ap (λ (l : List ℕ). x ∷ l) (h (same-tail x rest t e)))

-- up to a line end
line_first : (b : ℕ) → eqb b 10 ≡ true → (rest text : List ℕ) → first_line rest ≡ rest → lines_of (rest ++ b ∷ text) ≡ rest ∷ lines_of text
unfolding lines_of
line_first b n [] text e = rw n
line_first b n (x ∷ rest) text e = go (eqb x 10) refl (line_first b n rest text)
  where
    go : (t : Bool) → eqb x 10 ≡ t → (first_line rest ≡ rest → lines_of (rest ++ b ∷ text) ≡ rest ∷ lines_of text) → lines_of (x ∷ (rest ++ b ∷ text)) ≡ (x ∷ rest) ∷ lines_of text
    go true t h = absurd (no-first x rest t e)
    go false t h = rw (t, h (same-tail x rest t e))

-- a line without a line end
line-alone : (rest : List ℕ) → first_line rest ≡ rest → 0 < length rest → lines_of rest ≡ rest ∷ []
unfolding lines_of
line-alone rest e l =
    let none : drop (suc (length rest)) rest ≡ [] = drop_of_length-le rest {i = suc (length rest)} (omega arith) in
    first-and-rest rest l ∙ rw (e, none)

pub empty : (s : List ℕ) → length s ≡ 0 → s ≡ []
empty [] e = refl
empty (b ∷ s) e = absurd (omega arith)

-- bytes of which none ends a line
open_line : (s : List ℕ) → ((k : ℕ) → k < length s → eqb (get_or s k 0) 10 ≡ false) → first_line s ≡ s
open_line [] h = none_first
open_line (b ∷ s) h = more-first b s (h 0 (omega arith)) ∙ ap (λ (l : List ℕ). b ∷ l) (open_line s (λ k l. h (suc k) (omega arith)))

line-end : (text : List ℕ) → first_line (10 ∷ text) ≡ []
unfolding first_line
line-end text = refl

-- ---- a line that is split off with its end, where x is the place of the end, or there is none
pub record Split (text line behind : List ℕ) (x : ℕ) : Type 0 where
  pub joins : text ≡ line ++ behind
  pub size : length line ≡ min (x + 1) (length text)
  pub before : (k : ℕ) → k < x → eqb (get_or text k 0) 10 ≡ false
  pub ends : x < length text → eqb (get_or text x 0) 10 ≡ true
  pub some : 0 < length text

-- what `split_inclusive` gives, where each call of its closure tests for the end
pub split_by : {F : Type 0} (g : Mut F (Bor ℕ × Unit {0}) Bool) (f f' : F) {text line behind : List ℕ} (x : ℕ) → text ≡ line ++ behind → length line ≡ min (x + 1) (length text)
    → ((p : ℕ → Bool) → ComputesKey g p f → ComputesKey g p f' × IsFirstMatchOrLen p text x) → 0 < length text
    → ((h : F) (a : Bor ℕ × Unit {0}) (r : Bool) (h' : F) → Called g h a r h' → r ≡ eqb a.0.now 10) → Split text line behind x
split_by g f f' x joins size first some tests =
    let k = (first (λ b. eqb b 10) (answers_always g (λ a r. r ≡ eqb a.0.now 10) f tests)).1 in
    record { joins = joins; size = size; before = λ i l. k.0 i 0 (omega arith) l; ends = λ l. k.1 l 0; some = some }

-- what it is: the first line, whether its end follows, and what stands behind that
pub record FirstLine (text line behind : List ℕ) (ended : Bool) : Type 0 where
  pub first : first_line text ≡ line
  pub closed : ltb (length (first_line text)) (length text) ≡ ended
  pub rest : behind ≡ drop (suc (length (first_line text))) text

module _ {text line behind : List ℕ} {x : ℕ} (c : Split text line behind x) where
  pub with-end : drop (length line - 1) line ≡ 10 ∷ [] → FirstLine text (take (length line - 1) line) behind true
  with-end e =
      let part : List ℕ = take (length line - 1) line in
      let whole : line ≡ part ++ (10 ∷ []) = sym (take-append-drop (length line - 1) line) ∙ ap (λ (l : List ℕ). part ++ l) e in
      let t : text ≡ part ++ (10 ∷ behind) = c.joins ∙ ap (λ (l : List ℕ). l ++ behind) whole ∙ append_assoc part (10 ∷ []) behind in
      let n : length part ≡ length line - 1 = length-take-le (length line - 1) line (omega arith) in
      let open' : first_line part ≡ part =
      open_line part (λ k l. ap (λ (b : ℕ). eqb b 10) (sym (ap (λ (s : List ℕ). get_or s k 0) t ∙ get_or_append_left part (10 ∷ behind) 0 k l)) ∙ c.before k (omega (arith, c.size)))
      in
      let f : first_line text ≡ part = ap first_line t ∙ first_on part (10 ∷ behind) open' ∙ rw (line-end behind) (append-nil part) in
      let long : length text ≡ length part + suc (length behind) = ap length t ∙ length-append part (10 ∷ behind) in
      record {
        first = f;
        closed = rw f (lt-ltb (length part) (length text) (omega arith));
        rest = sym (rw (f, t, ← add-one (length part)) (drop-append-add part (10 ∷ behind) 1));
      }

  pub without-end : (drop (length line - 1) line ≡ 10 ∷ [] → ⊥) → FirstLine text line behind false
  without-end n = go (ltb x (length text)) refl
    where
      go : (t : Bool) → ltb x (length text) ≡ t → FirstLine text line behind false
      go true t =
          let l : x < length text = ltb-true x (length text) t in
          let k : x < length line = omega (arith, c.size) in
          let here : get_or line x 0 ≡ 10 = sym (ap (λ (s : List ℕ). get_or s x 0) c.joins ∙ get_or_append_left line behind 0 x k) ∙ eqb-true (get_or text x 0) 10 (c.ends l) in
          let last : length line - 1 ≡ x = omega (arith, c.size) in
          absurd (n (rw (last, drop-cons line x 0 k, here, drop_of_length-le line {i = suc x} (omega (arith, c.size)))))
      go false t =
          let l : length text ≤ x = ltb-false x (length text) t in
          let long : length text ≡ length line + length behind = ap length c.joins ∙ length-append line behind in
          let none : behind ≡ [] = empty behind (omega (arith, c.size)) in
          let all : text ≡ line = c.joins ∙ ap (λ (b : List ℕ). line ++ b) none ∙ append-nil line in
          let f : first_line text ≡ text = open_line text (λ k h. c.before k (omega arith)) in
          record {
            first = f ∙ all;
            closed = rw f (le-ltb (length text) (length text) (omega arith));
            rest = none ∙ rw f (sym (drop_of_length-le text {i = suc (length text)} (omega arith)));
          }

module _ (row : List Rule) (room : ℕ) where
  -- ---- pieces
  pub fed-both : (s : Fed) (a b : List ℕ) → fed row room (fed row room s a) b ≡ fed row room s (a ++ b)
  unfolding fed
  fed-both s [] b = refl
  fed-both s (x ∷ a) b = fed-both (byte_fed row room s x) a b

  pub fed-all : (s : Fed) (pieces : List (List ℕ)) → foldl (fed row room) s pieces ≡ fed row room s (joined pieces)
  unfolding fed joined
  fed-all s [] = refl
  fed-all s (p ∷ pieces) = fed-all (fed row room s p) pieces ∙ fed-both s p (joined pieces)

  pub fed-stopped : (s : Fed) → s.stopped ≡ true → (text : List ℕ) → fed row room s text ≡ s
  unfolding fed
  fed-stopped s e [] = refl
  fed-stopped s e (b ∷ text) =
      let stays : byte_fed row room s b ≡ s = rw e in
      ap (λ (t : Fed). fed row room t text) stays ∙ fed-stopped s e text

  end-halted : (log : Log) → end_of row (halted log) ≡ too_long log
  unfolding end_of
  end-halted log = refl

  pub fed-none : (s : Fed) → fed row room s [] ≡ s
  unfolding fed
  fed-none s = refl

  -- ---- the whole
  last : (log : Log) (rest : List ℕ) → first_line rest ≡ rest → length rest ≤ room → end_of row (carrying log rest) ≡ lines_within row room (lines_of (rest ++ [])) log
  unfolding end_of lines_within lines_of
  last log [] e l = refl
  last log (x ∷ rest) e l =
      let fits : ltb room (length (x ∷ rest)) ≡ false = le-ltb room (length (x ∷ rest)) l in
      let some : eqb (length (x ∷ rest)) 0 ≡ false = ne_eqb (length (x ∷ rest)) 0 (λ z. omega arith) in
      let lines : lines_of ((x ∷ rest) ++ []) ≡ (x ∷ rest) ∷ [] = ap lines_of (append-nil (x ∷ rest)) ∙ line-alone (x ∷ rest) e (omega arith) in
      let here : end_of row (carrying log (x ∷ rest)) ≡ line_taken row (x ∷ rest) log = rw some in
      let there : lines_within row room ((x ∷ rest) ∷ []) log ≡ line_taken row (x ∷ rest) log = rw fits in
      here ∙ sym (ap (λ (t : List (List ℕ)). lines_within row room t log) lines ∙ there)

  over : (text rest : List ℕ) (log : Log) → first_line rest ≡ rest → length rest ≤ room → end_of row (fed row room (carrying log rest) text) ≡ lines_within row room (lines_of (rest ++ text)) log
  unfolding fed lines_within
  over [] rest log e l = last log rest e l
  over (b ∷ text) rest log e l = go (eqb b 10) refl (ltb (length rest) room) refl (over text)
    where
      go : (t : Bool) → eqb b 10 ≡ t → (u : Bool) → ltb (length rest) room ≡ u
          → ((rest : List ℕ) (log : Log) → first_line rest ≡ rest → length rest ≤ room → end_of row (fed row room (carrying log rest) text) ≡ lines_within row room (lines_of (rest ++ text)) log)
          → end_of row (fed row room (byte_fed row room (carrying log rest) b) text) ≡ lines_within row room (lines_of (rest ++ b ∷ text)) log
      go true t u k h =
          let fits : ltb room (length rest) ≡ false = le-ltb room (length rest) l in
          rw (t, line_first b t rest text e, fits) (h [] (line_taken row rest log) none_first (omega arith))
      go false t true k h =
          let next : first_line (rest ++ (b ∷ [])) ≡ rest ++ (b ∷ []) = first_on rest (b ∷ []) e ∙ ap (λ (x : List ℕ). rest ++ x) (more-first b [] t ∙ ap (λ (x : List ℕ). b ∷ x) none_first) in
          rw (t, k, ← append_snoc rest b text) (h (rest ++ (b ∷ [])) log next (omega (arith, length-append rest (b ∷ []), ltb-true (length rest) room k)))
      go false t false k h =
          let long : first_line (rest ++ b ∷ text) ≡ rest ++ b ∷ first_line text = first_on rest (b ∷ text) e ∙ ap (λ (x : List ℕ). rest ++ x) (more-first b text t) in
          let most : ltb room (length (rest ++ b ∷ first_line text)) ≡ true = lt-ltb room (length (rest ++ b ∷ first_line text)) (omega (arith, length-append rest (b ∷ first_line text), ltb-false (length rest) room k)) in
          let some : 0 < length (rest ++ b ∷ text) = omega (arith, length-append rest (b ∷ text)) in
          rw (t, k, fed-stopped (halted log) refl text, first-and-rest (rest ++ b ∷ text) some, long, most) (end-halted log)

  -- a log fed in one piece is the whole of it taken
  pub fed-whole : (log : Log) (text : List ℕ) → end_of row (fed row room (begun log) text) ≡ log_taken row room text log
  unfolding log_taken
  fed-whole log text = over text [] log none_first (omega arith)

  -- and so it is in any pieces
  pub fed-in-pieces : (log : Log) (pieces : List (List ℕ)) → end_of row (foldl (fed row room) (begun log) pieces) ≡ log_taken row room (joined pieces) log
  fed-in-pieces log pieces = ap (end_of row) (fed-all (begun log) pieces) ∙ fed-whole log (joined pieces)

  -- ---- the code's steps: a line or the start of one, at once
  part-longer : (log : Log) (rest : List ℕ) (b : ℕ) (part : List ℕ) (ended : Bool) → part_fed row room (carrying log (rest ++ (b ∷ []))) part ended ≡ part_fed row room (carrying log rest) (b ∷ part) ended
  part-longer log rest b part ended =
      let n : length (rest ++ (b ∷ [])) + length part ≡ length rest + length (b ∷ part) = omega (arith, length-append rest (b ∷ [])) in
      rw (n, append_snoc rest b part)

  part-from : (text rest : List ℕ) (log : Log) → length rest ≤ room
      → fed row room (carrying log rest) text ≡ fed row room (part_fed row room (carrying log rest) (first_line text) (ltb (length (first_line text)) (length text))) (drop (suc (length (first_line text))) text)
  unfolding fed first_line
  part-from [] rest log l =
      let fits : ltb room (length rest + 0) ≡ false = le-ltb room (length rest + 0) (omega arith) in
      rw (fits, append-nil rest)
  part-from (b ∷ text) rest log l = go (eqb b 10) refl (ltb (length rest) room) refl (part-from text (rest ++ (b ∷ [])) log)
    where
      go : (t : Bool) → eqb b 10 ≡ t → (u : Bool) → ltb (length rest) room ≡ u
          → (length (rest ++ (b ∷ [])) ≤ room → fed row room (carrying log (rest ++ (b ∷ []))) text ≡ fed row room (part_fed row room (carrying log (rest ++ (b ∷ []))) (first_line text) (ltb (length (first_line text)) (length text))) (drop (suc (length (first_line text))) text))
          → fed row room (byte_fed row room (carrying log rest) b) text ≡ fed row room (part_fed row room (carrying log rest) (first_line (b ∷ text)) (ltb (length (first_line (b ∷ text))) (length (b ∷ text)))) (drop (suc (length (first_line (b ∷ text)))) (b ∷ text))
      go true t u k h =
          let fits : ltb room (length rest + 0) ≡ false = le-ltb room (length rest + 0) (omega arith) in
          let ended : ltb 0 (length (b ∷ text)) ≡ true = lt-ltb 0 (length (b ∷ text)) (omega arith) in
          rw (t, fits, ended, append-nil rest)
      go false t true k h =
          rw (t, k) (h (omega (arith, length-append rest (b ∷ []), ltb-true (length rest) room k))
          ∙ ap (λ (s : Fed). fed row room s (drop (suc (length (first_line text))) text)) (part-longer log rest b (first_line text) (ltb (length (first_line text)) (length text)))
          ∙ ap (λ (u : Bool). fed row room (part_fed row room (carrying log rest) (b ∷ first_line text) u) (drop (suc (length (first_line text))) text)) (sym (ltb-suc (length (first_line text)) (length text))))
      go false t false k h =
          let most : ltb room (length rest + suc (length (first_line text))) ≡ true = lt-ltb room (length rest + suc (length (first_line text))) (omega (arith, ltb-false (length rest) room k)) in
          rw (t, k, most) (fed-stopped (halted log) refl text ∙ sym (fed-stopped (halted log) refl (drop (suc (length (first_line text))) text)))

  pub part-fed : (s : Fed) → s.stopped ≡ false → length s.rest ≤ room → (text : List ℕ)
      → fed row room s text ≡ fed row room (part_fed row room s (first_line text) (ltb (length (first_line text)) (length text))) (drop (suc (length (first_line text))) text)
  part-fed s e l text =
      let same : s ≡ carrying s.log s.rest = ap (λ (b : Bool). record { log = s.log; rest = s.rest; stopped = b }) e in
      ap (λ (t : Fed). fed row room t text) same ∙ part-from text s.rest s.log l

  -- a turn of the loop over a piece
  pub turn : {text line behind : List ℕ} {ended : Bool} → FirstLine text line behind ended → (s t : Fed) → s.stopped ≡ false → length s.rest ≤ room
      → t ≡ part_fed row room s line ended → fed row room t behind ≡ fed row room s text
  turn {text} {line} {behind} {ended} c s t open' most p =
      let n : ℕ = length (first_line text) in
      ap (λ (x : List ℕ). fed row room t x) c.rest
      ∙ ap (λ (u : Fed). fed row room u (drop (suc n) text)) (p ∙ ap (λ (x : List ℕ). part_fed row room s x ended) (sym c.first) ∙ ap (λ (b : Bool). part_fed row room s (first_line text) b) (sym c.closed))
      ∙ sym (part-fed s open' most text)

-- ---- a length above that of the bytes
pub clamped : (len : ℕ) (l : List ℕ) → take (cond (ltb len (length l)) len (length l)) l ≡ take len l
clamped len l = go (ltb len (length l)) refl
  where
    go : (t : Bool) → ltb len (length l) ≡ t → take (cond (ltb len (length l)) len (length l)) l ≡ take len l
    go true e = rw e
    go false e = rw e (take_all (length l) l (omega arith) ∙ sym (take_all len l (ltb-false len (length l) e)))

pub clamped-most : (len n : ℕ) → cond (ltb len n) len n ≤ n
clamped-most len n = go (ltb len n) refl
  where
    go : (t : Bool) → ltb len n ≡ t → cond (ltb len n) len n ≤ n
    go true e = rw e (omega (arith, ltb-true len n e))
    go false e = rw e (omega arith)

pub state-within : (job : Job) (bytes : List ℕ) → state_of (job_within job (length bytes)) bytes ≡ state_of job bytes
state-within job bytes = ap (λ (r : List ℕ). record { log = job.log; rest = r; stopped = job.stopped }) (clamped job.len bytes)

pub by_most : (job : Job) (bytes : List ℕ) (w : Job) → w ≡ job_within job (length bytes) → w.len ≤ length bytes
by_most job bytes w e = rw e (clamped-most job.len (length bytes))
