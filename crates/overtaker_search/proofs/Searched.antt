-- The pass over the steps of a run ends with the definition's answer. Each move of the watch keeps that what is remembered agrees with the
-- watcher's lists, so that it does at the end; and the lines of a script are such a run.
use Prim.Native.Nat.{ℕ, ◌+◌, ◌≤◌, ◌<◌}
use mathlib.Core.Path.{◌≡◌, refl, sym, ap, subst, ◌∙◌}
use mathlib.Core.Bool.{Bool, true, false, cond, not, ◌&&◌}
use mathlib.Core.List.{List, [], ◌∷◌}
use mathlib.Core.Option.{Option, none, some}
use native.Mathlib.Omega.{arith}
use lib.Dec.{eqb}
use borrow.Author.Tests.{eq-eqb, ne_eqb, eqb-true, eqb-false}
use Rattle.lists.specs.Every.{Every}
use Rattle.lists.specs.Functions.{put, inside}
use Rattle.lists.proofs.Functions.{on, put_all, put_both}
use Rattle.model.specs.Kinds.{Kind, concur}
use Rattle.model.specs.Records.{Value}
use Rattle.model.specs.Board.{Board, opened}
use Rattle.model.specs.Runs.{Call, begin, deliver, crash, Seen, Step, step}
use Rattle.model.specs.Reference.{Operation}
use Rattle.model.specs.History.{Op, Submit, Watch, no_op, begun_op, submitted_op, submit_of, decided_op, ended, nothing_yet, watched}
use Rattle.model.specs.Positions.{step_at, IsBegin, IsDeliver, began_by}
use Rattle.model.specs.Demand3.{Demand3}
use Rattle.model.specs.Table.{table_words}
use Rattle.model.specs.TableCalls.{table_after, table_seen, table_run}
use Rattle.model.specs.Script.{line_call, with_call, calls_of, stepped, step_line}
use Rattle.model.specs.Overtaker.{Overtaker, refuses, names, named, aborted_op, overtaker_in, is_call, well_formed, lines_overtaker}
use Rattle.model.proofs.HistoryLists.{every}
use Rattle.model.proofs.PositionsInvariant.{Moved, stays, begins, submits, replies, judges, ends, Places, later, with_running}
use Rattle.model.proofs.PositionsInvariant.{with_decided, next_op}
use Rattle.model.proofs.Positions.{beside}
use Rattle.model.proofs.Overtaker.{watched_left}
use Rattle.model.proofs.OvertakerMarks.{Marks, marks_after, marks_nothing}
use Rattle.runs.proofs.Scripts.{steps_run}
use Rattle.overtaker_search.specs.Search.{Search, or_first, search_start, search_begin, search_own, search_other, search_submit}
use Rattle.overtaker_search.specs.Search.{search_verdict, search_deliver, search_call, search_next, search_step}
use Rattle.overtaker_search.specs.Search.{search_answer, unless_malformed, lines_searched}
use Rattle.overtaker_search.proofs.Stages.{Stage, waits, stage-begins, stage-submits, stage-replies, stage-judges}
use Rattle.overtaker_search.proofs.Stages.{stage-overtaken, stage-apart, stage-ended, stage-idle, stage-answers}

-- the operation whose submit member j sends, once that is taken, and the submits with it
abbrev taken_op : Watch → ℕ → Op
taken_op w j = submitted_op (w.steps + 1) (w.running j)

abbrev with_submit : Watch → ℕ → List Submit
with_submit w j = submit_of (w.steps + 1) j (w.running j) ∷ w.submits

module _ (i k : ℕ) where
  -- What a step does, told as the moves tell it.

  step-begins : (s : Search) (o : Operation) (call : Call) (seen : Seen) → IsBegin o (some (step call seen))
      → search_step i k s call seen ≡ search_begin i (search_next s) o.member o.slot
  unfolding search_step search_call
  step-begins s o (begin j r t v) seen b = rw (b.1, eq-eqb seen.answer 0 b.0)
  step-begins s o (deliver j) seen b = absurd b
  step-begins s o (crash j) seen b = absurd b

  step-delivers : (s : Search) (j q : ℕ) (v : Option Value) (call : Call) (seen : Seen) → IsDeliver j q v (some (step call seen))
      → search_step i k s call seen ≡ search_deliver i k (search_next s) j q
  unfolding search_step search_call
  step-delivers s j q v (begin m r t x) seen d = absurd d
  step-delivers s j q v (deliver m) seen d = rw (d.0, eq-eqb seen.answer 0 d.1, d.2)
  step-delivers s j q v (crash m) seen d = absurd d

  step_stays : (s : Search) (call : Call) (seen : Seen) → ((m : ℕ) → began_by m (some (step call seen)) ≡ false)
      → ((j q : ℕ) (v : Option Value) → IsDeliver j q v (some (step call seen)) → ⊥) → search_step i k s call seen ≡ search_next s
  unfolding search_step search_call began_by
  step_stays s (begin j r t v) seen quiet still = rw (ap (λ b. b && eqb seen.answer 0) (sym (eq-eqb j j refl)) ∙ quiet j)
  step_stays s (deliver j) seen quiet still = on (eqb seen.answer 0)
      (λ e. absurd (still j (seen.phases j) seen.returned (refl, eqb-true seen.answer 0 e, refl, refl)))
      (λ e. rw e)
  step_stays s (crash j) seen quiet still = on (eqb seen.answer 0) (λ e. rw e) (λ e. rw e)

  -- What is remembered agrees with the watcher's lists.

  -- of member m, where that is i: how many it has begun, and at which stage the operation asked for is
  abbrev AtStage : (ℕ → ℕ) → Watch → Search → ℕ → Type 0
  AtStage p w s m =
      (s.begun ≡ (w.running m).ordinal)
      × Stage i k (p m) (w.running m) w.decided w.submits s.follows s.slot s.first

  record Agrees (p : ℕ → ℕ) (w : Watch) (s : Search) : Type 0 where
    steps : s.steps ≡ w.steps
    slots : (j : ℕ) → s.slots j ≡ (w.running j).given.slot
    stage : AtStage p w s i

  module _ {look : ℕ → Option Step} {p : ℕ → ℕ} {w : Watch} (s : Search) (h : Places look p w) (t : Marks look p w) (a : Agrees p w s) where
    at_stage : (m : ℕ) → m ≡ i → AtStage p w s m
    at_stage m e = subst (AtStage p w s) (sym e) a.stage

    past : Every (λ o. o.verdict_at ≤ w.steps + 1) w.decided
    past = every (λ o d. omega (arith, d.1)) w.decided h.decided

    early : Every (λ u. u.at < w.steps + 1) w.submits
    early = every (λ u l. omega arith) w.submits t.early

    agrees-stays : Agrees p (later w) (search_next s)
    agrees-stays = record { steps = omega (arith, a.steps); slots = a.slots; stage = a.stage }

    -- the same after a step that moved member j: at it, and at every other member
    abbrev Moves : Search → List Op → List Submit → ℕ → ℕ → Op → Type 0
    Moves x ops subs m phase o = m ≡ i → (x.begun ≡ o.ordinal) × Stage i k phase o ops subs x.follows x.slot x.first

    agrees-begins : (j r u : ℕ) (v : Value) → p j ≡ 0
        → Agrees (put p j 1) (with_running w j (next_op w j r u v) w.submits) (search_begin i (search_next s) j r)
    unfolding search_begin begun_op
    agrees-begins j r u v idle =
        let o = next_op w j r u v in
        record {
          steps = omega (arith, a.steps);
          slots = put_both (λ m r o. r ≡ o.given.slot) s.slots w.running j r o refl (λ m d. a.slots m);
          stage = put_both (Moves (search_begin i (search_next s) j r) w.decided w.submits) p w.running j 1 o
              (λ e. let b = at_stage j e in (
                rw (eq-eqb j i e) (omega (arith, b.0)),
                stage-begins i k o refl (rw idle at b.1),
              ))
              (λ m d e. let b = at_stage m e in (rw (ne_eqb j i (λ x. d (e ∙ sym x))) (omega (arith, b.0)), b.1))
              i refl;
        }

    -- the host takes a submit of member j
    module _ (j : ℕ) where
      same-slots : (m : ℕ) → s.slots m ≡ (put w.running j (taken_op w j) m).given.slot
      unfolding submitted_op
      same-slots = put_all (λ m o. s.slots m ≡ o.given.slot) w.running j (taken_op w j) (a.slots j) (λ m d. a.slots m)

      agrees-own : p j ≡ 1 → j ≡ i → Agrees (put p j 2) (with_running w j (taken_op w j) (with_submit w j)) (search_own k (search_next s) j)
      unfolding submitted_op submit_of
      agrees-own one own =
          let b = at_stage j own in
          let before : Every (λ u. u.at ≤ w.steps + 1) w.submits = every (λ u l. omega arith) w.submits early in
          let next = stage-submits i k j (w.steps + 1) before past (rw one at b.1) in
          record {
            steps = omega (arith, a.steps);
            slots = same-slots;
            stage = put_both (Moves (search_own k (search_next s) j) w.decided (with_submit w j)) p w.running j 2 (taken_op w j)
                (λ e. (b.0, rw (b.0, a.slots j) next))
                (λ m d e. absurd (d (e ∙ sym own)))
                i refl;
          }

      -- another's counts by its slot, and by the number of this step
      named-now : (r n : ℕ) → s.slots j ≡ r → s.steps ≡ n
          → (search_other (search_next s) j).first
          ≡ cond (s.follows && eqb r s.slot) (or_first s.first (names j (n + 1))) s.first
      named-now r n e f =
          ap (λ x. cond (s.follows && eqb x s.slot) (or_first s.first (names j (s.steps + 1))) s.first) e
          ∙ ap (λ x. cond (s.follows && eqb r s.slot) (or_first s.first (names j (x + 1))) s.first) f

      agrees-other : (j ≡ i → ⊥) → Agrees (put p j 2) (with_running w j (taken_op w j) (with_submit w j)) (search_other (search_next s) j)
      unfolding submitted_op submit_of
      agrees-other other = record {
        steps = omega (arith, a.steps);
        slots = same-slots;
        stage = put_both (Moves (search_other (search_next s) j) w.decided (with_submit w j)) p w.running j 2 (taken_op w j)
            (λ e. absurd (other e))
            (λ m d e. let b = at_stage m e in
            let new = submit_of (w.steps + 1) j (w.running j) in
            let next = stage-overtaken i k new (omega (arith, (h.running m).submitted)) past b.1 in (
              b.0,
              subst (Stage i k (p m) (w.running m) w.decided (with_submit w j) s.follows s.slot)
                  (sym (named-now (w.running j).given.slot w.steps (a.slots j) a.steps)) next,
            ))
            i refl;
      }

      agrees-submits : p j ≡ 1 → Agrees (put p j 2) (with_running w j (taken_op w j) (with_submit w j))
          (search_submit i k (search_next s) j)
      unfolding search_submit
      agrees-submits one = on (eqb j i)
          (λ e. rw e (agrees-own one (eqb-true j i e)))
          (λ e. rw e (agrees-other (eqb-false j i e)))

    agrees-replies : (j : ℕ) → p j ≡ 2 → Agrees (put p j 3) (later w) (search_next s)
    agrees-replies j two = record {
      steps = omega (arith, a.steps);
      slots = a.slots;
      stage = put_all (λ m phase. Moves s w.decided w.submits m phase (w.running m)) p j 3
          (λ e. let b = at_stage j e in (b.0, stage-replies i k (rw two at b.1)))
          (λ m d. at_stage m)
          i refl;
    }

    -- an operation of member j is judged
    module _ (j : ℕ) (accepted : Bool) where
      abbrev judged : Watch
      judged = with_decided w (decided_op (w.steps + 1) accepted (w.running j) ∷ w.decided)

      -- if it is member i, the pass no longer follows it, and forgets who was first if it was accepted
      abbrev left : Search
      left = record {
        steps = s.steps + 1;
        slots = s.slots;
        begun = s.begun;
        follows = cond s.follows false s.follows;
        slot = s.slot;
        first = cond s.follows (cond accepted (named none) s.first) s.first;
      }

      verdict_own : j ≡ i → search_verdict i (search_next s) j accepted ≡ left
      unfolding search_verdict named
      verdict_own e = on s.follows (λ f. rw (eq-eqb j i e, f)) (λ f. rw (eq-eqb j i e, f))

      verdict_other : (j ≡ i → ⊥) → search_verdict i (search_next s) j accepted ≡ search_next s
      unfolding search_verdict
      verdict_other e = rw (ne_eqb j i e)

      whose : p j ≡ 3 → (w.running j).given.member ≡ j
      whose three = (h.running j).placed.member ((h.running j).has_begun (omega arith))

      agrees-left : p j ≡ 3 → j ≡ i → Agrees (put p j (cond accepted 4 5)) judged left
      agrees-left three own = record {
        steps = omega (arith, a.steps);
        slots = a.slots;
        stage = put_all (λ m phase. Moves left judged.decided w.submits m phase (w.running m)) p j (cond accepted 4 5)
            (λ e. let b = at_stage j e in
            (b.0, stage-judges i k (w.steps + 1) accepted (whose three ∙ own) early (rw three at b.1)))
            (λ m d e. absurd (d (e ∙ sym own)))
            i refl;
      }

      agrees-apart : p j ≡ 3 → (j ≡ i → ⊥) → Agrees (put p j (cond accepted 4 5)) judged (search_next s)
      unfolding decided_op
      agrees-apart three other = record {
        steps = omega (arith, a.steps);
        slots = a.slots;
        stage = put_all (λ m phase. Moves s judged.decided w.submits m phase (w.running m)) p j (cond accepted 4 5)
            (λ e. absurd (other e))
            (λ m d e. let b = at_stage m e in
            (b.0, stage-apart i k (decided_op (w.steps + 1) accepted (w.running j)) (λ x. other (sym (whose three) ∙ x)) b.1))
            i refl;
      }

      agrees-judges : p j ≡ 3 → Agrees (put p j (cond accepted 4 5)) judged (search_verdict i (search_next s) j accepted)
      agrees-judges three = on (eqb j i)
          (λ e. rw (verdict_own (eqb-true j i e)) (agrees-left three (eqb-true j i e)))
          (λ e. rw (verdict_other (eqb-false j i e)) (agrees-apart three (eqb-false j i e)))

    agrees-ends : (j : ℕ) (v : Option Value) → 4 ≤ p j
        → Agrees (put p j 0) (with_decided w (ended j (w.steps + 1) v w.decided)) (search_next s)
    agrees-ends j v four = record {
      steps = omega (arith, a.steps);
      slots = a.slots;
      stage = put_all (λ m phase. Moves s (ended j (w.steps + 1) v w.decided) w.submits m phase (w.running m)) p j 0
          (λ e. let b = at_stage j e in (b.0, stage-idle i k four (stage-ended i k j (w.steps + 1) v b.1)))
          (λ m d e. let b = at_stage m e in (b.0, stage-ended i k j (w.steps + 1) v b.1))
          i refl;
    }

  -- Each move keeps it.

  deliver-judges : (s : Search) (j : ℕ) (a : Bool) → search_deliver i k s j (cond a 4 5) ≡ search_verdict i s j a
  unfolding search_deliver
  deliver-judges s j true = refl
  deliver-judges s j false = refl

  agrees_after : {look : ℕ → Option Step} {p q : ℕ → ℕ} {w x : Watch} (s : Search) (call : Call) (seen : Seen)
      → look (w.steps + 1) ≡ some (step call seen) → Moved look p w q x → Places look p w → Marks look p w → Agrees p w s
      → Agrees q x (search_step i k s call seen)
  unfolding search_deliver begun_op
  agrees_after s call seen here (stays quiet still) h t a =
      rw (step_stays s call seen (λ m. rw here at (quiet m)) (λ j q v d. still j q v (rw here d))) (agrees-stays s h t a)
  agrees_after s call seen here (begins j r u v z b) h t a =
      rw (step-begins s _ call seen (rw here at b)) (agrees-begins s h t a j r u v z)
  agrees_after s call seen here (submits j one d) h t a =
      rw (step-delivers s j 2 none call seen (rw here at d)) (agrees-submits s h t a j one)
  agrees_after s call seen here (replies j v two d) h t a =
      rw (step-delivers s j 3 v call seen (rw here at d)) (agrees-replies s h t a j two)
  agrees_after s call seen here (judges j b three d) h t a =
      rw (step-delivers s j (cond b 4 5) none call seen (rw here at d), deliver-judges (search_next s) j b)
      (agrees-judges s h t a j b three)
  agrees_after s call seen here (ends j v four d) h t a =
      rw (step-delivers s j 0 v call seen (rw here at d)) (agrees-ends s h t a j v four)

  agrees-nothing : Agrees (λ j. 0) nothing_yet search_start
  unfolding nothing_yet no_op search_start named aborted_op
  agrees-nothing = record {
    steps = refl;
    slots = λ j. refl;
    stage = (refl, waits (omega arith) (λ e. omega arith) refl refl refl);
  }

  -- Of every run of which demand 3 holds.
  run-searched : (kind : Kind) (n : ℕ) (calls : List Call) (boards : List Board) (seen : List Seen) → Demand3 kind n calls boards seen
      → search_answer (beside (search_step i k) search_start calls seen) ≡ named (overtaker_in (watched calls seen) i k)
  unfolding overtaker_in search_answer named
  run-searched kind n calls boards seen d =
      let look = step_at calls seen in
      let l = watched_left (search_step i k) calls seen (λ p w s. Marks look p w × Agrees p w s)
      (λ p q w x s call seen here moved h y. (marks_after moved h y.0, agrees_after s call seen here moved h y.0 y.1))
      search_start (marks_nothing look, agrees-nothing) kind n boards d in
      stage-answers i k l.kept.1.stage.1

  -- Lines: one of another form is refused, and the others are a run.

  -- what the lines from a table on give
  abbrev as_run : List ℕ → Search → Bool → List Call → Overtaker
  as_run table s formed calls =
      cond (not formed) (refuses 17) (search_answer (beside (search_step i k) s calls (table_run concur table calls)))

  -- a line and the others
  line-searched : (table : List ℕ) (s : Search) (call : Option Call) (lines : List (List ℕ)) (formed : Bool) (calls : List Call)
      → ((table : List ℕ) (s : Search) → lines_searched i k table s lines ≡ as_run table s formed calls)
      → let done = stepped concur table call in
      unless_malformed done.happened (λ call seen. lines_searched i k done.table (search_step i k s call seen) lines)
      ≡ as_run table s (is_call call && formed) (with_call call calls)
  unfolding stepped unless_malformed is_call with_call table_run beside
  line-searched table s none lines formed calls h = refl
  line-searched table s (some call) lines formed calls h =
      h (table_after concur table call) (search_step i k s call (table_seen concur table call))

  lines-searched : (lines : List (List ℕ)) (table : List ℕ) (s : Search)
      → lines_searched i k table s lines ≡ as_run table s (well_formed lines) (calls_of lines)
  unfolding well_formed lines_searched step_line calls_of beside
  lines-searched [] table s = refl
  lines-searched (line ∷ lines) table s =
      line-searched table s (line_call line) lines (well_formed lines) (calls_of lines) (lines-searched lines)

  -- The lines after the first, on the board that it opened.
  pub lines_answered : (n : ℕ) (lines : List (List ℕ)) → inside 12 n ≡ true
      → lines_searched i k (table_words n (opened n)) search_start lines ≡ lines_overtaker n lines i k
  unfolding lines_overtaker
  lines_answered n lines size =
      let steps = steps_run concur n size lines in
      let calls = calls_of lines in
      let demand3 = rw steps.run at steps.holds in
      lines-searched lines (table_words n (opened n)) search_start
      ∙ on (well_formed lines)
      (λ f. rw (f, size) (run-searched concur n calls _ (table_run concur (table_words n (opened n)) calls) demand3))
      (λ f. rw f)
