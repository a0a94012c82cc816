-- Calls with a slice beside the table: what the C interface answers and leaves.
use Prim.Native.Nat.{ℕ, ◌+◌}
use native.Mathlib.Omega.{arith}
use mir.Val.{bool_byte}
use mathlib.Core.Path.{◌≡◌, refl, sym, ap, ◌∙◌}
use mathlib.Core.Bool.{Bool, false, true, cond}
use mathlib.Core.List.{List, ◌∷◌}
use lib.Dec.{eqb}
use lib.ListN.{length, set, replicate}
use borrow.Author.Tests.{eq-eqb, ne_eqb}
use Rattle.std.specs.Prelude.{Option as Returned, Some, None, is_some}
use Rattle.std.specs.Option.{unwrap_or}
use Rattle.lists.specs.Functions.{from, pasted, numbered}
use Rattle.lists.specs.Parts.{words, tabulate, listed}
use Rattle.lists.proofs.Functions.{put_at, pasted_below, from_pasted_at, numbered_at}
use Rattle.lists.proofs.Parts.{words_set, tabulate-same}
use Rattle.lists.proofs.Pieces.{tabulate-join, tabulate-of}
use Rattle.model.specs.Kinds.{Kind, concur}
use Rattle.model.specs.Records.{Value}
use Rattle.model.specs.RecordWords.{value_of}
use Rattle.model.specs.Runs.{Call, begin}
use Rattle.model.specs.Table.{value_size}
use Rattle.model.specs.TableCalls.{call_number, table_answer, table_after, table_returns}
use Rattle.records.proofs.Laws.{zero_value_lem}
use Rattle.member_block.specs.Results.{returned_in}
use Rattle.tables.specs.Needs.{Sound}
use Rattle.table_calls.specs.Needs.{Answered}
use Rattle.board.specs.Interface.{answer_beside, after_beside, Beside, returned_size, returned_words, returned_after}
use Rattle.board.proofs.Answers.{call-number, call-table}

module _ (kind : Kind) (long due : ℕ) (l : List ℕ) (call : Call) where
  -- refused, the table is as it was
  pub refused : {k : ℕ} → k ≡ answer_beside kind long due l call → eqb k 0 ≡ false → Beside kind long due l call k l
  unfolding after_beside
  refused e ne = (e, rw (← e, ne))

  -- by a number that no argument has a part in
  pub own_beside : {k : ℕ} → k ≡ call_number kind l call → eqb k 0 ≡ false → Beside kind long due l call k l
  unfolding answer_beside
  own_beside e ne = refused (rw (← e, ne)) ne

  module _ (e : 0 ≡ call_number kind l call) where
    -- by the slice's length
    pub long-beside : (long ≡ due → ⊥) → Beside kind long due l call 2 l
    unfolding answer_beside
    long-beside ne = refused (rw (← e, ne_eqb long due ne)) refl

    module _ (fits : long ≡ due) {n number : ℕ} {exit : List ℕ} (t : Sound n l) (h : Answered kind n l call number exit) where
      same-call : table_answer kind l call ≡ answer_beside kind long due l call
      unfolding answer_beside table_answer
      same-call = rw (eq-eqb long due fits)

      pub done-beside : Beside kind long due l call number exit
      unfolding after_beside table_after
      done-beside = (call-number kind l exit call t e h ∙ same-call, call-table kind l exit call t e h ∙ rw same-call)

-- What is handed out: the flag's word, and of an answer the flag and the value.
pub flagged : (given : Bool) (v : List ℕ) {first : ℕ} → first ≡ bool_byte given
    → first ∷ listed value_size (value_of (words v)) ≡ cond given 1 0 ∷ listed value_size (value_of (words v))
flagged false v e = rw e refl
flagged true v e = rw e refl

pub handed : (v : Returned (List ℕ))
    → cond (is_some v) 1 0 ∷ listed value_size (value_of (words (unwrap_or v (replicate 8 0)))) ≡ returned_words (returned_in v)
unfolding returned_words
handed None = ap (λ v. 0 ∷ listed value_size v) zero_value_lem
handed (Some w) = refl

module _ (returned l : List ℕ) (call : Call) where
  pub returned_kept : {k : ℕ} → k ≡ answer_beside concur (length returned) returned_size l call → eqb k 0 ≡ false
      → returned ≡ returned_after returned l call
  unfolding returned_after
  returned_kept e ne = rw (← e, ne)

  pub returned_written : 0 ≡ answer_beside concur (length returned) returned_size l call → {written : List ℕ}
      → written ≡ returned_words (table_returns concur l call)
      → written ≡ returned_after returned l call
  unfolding returned_after
  returned_written e h = rw (← e) h

-- the nine words, as they are written one after the other
pub handed_words : (r exit value : List ℕ) (first : ℕ) → length r ≡ returned_size → length exit ≡ length r
    → words exit ≡ pasted 1 value_size (words value) (words (set r 0 first)) → exit ≡ first ∷ listed value_size (value_of (words value))
unfolding value_of tabulate
handed_words r exit value first long same h =
    let w = words exit in
    sym (tabulate-of returned_size exit (same ∙ long))
    ∙ sym (tabulate-join 1 value_size w)
    ∙ (λ t. head t ∷ tail t)
  where
    old : ℕ → ℕ
    old = words (set r 0 first)

    head : words exit 0 ≡ first
    head = ap (λ w. w 0) h ∙ pasted_below 1 value_size (words value) old 0 (omega arith)
        ∙ ap (λ w. w 0) (words_set r 0 first (omega (arith, long))) ∙ put_at (words r) 0 first

    tail : tabulate value_size (from (words exit) 1) ≡ listed value_size (numbered 8 0 (words value))
    tail = tabulate-same value_size (from (words exit) 1) (λ i. numbered 8 0 (words value) (i + 1)) (λ i p.
        ap (λ w. from w 1 i) h ∙ from_pasted_at 1 value_size (words value) old i p ∙ sym (numbered_at 8 0 (words value) i p))

pub same_value : {kind : Kind} {n : ℕ} {l : List ℕ} {i r t : ℕ} {v w : Value} {k : ℕ} {exit : List ℕ} → v ≡ w
    → Answered kind n l (begin i r t v) k exit → Answered kind n l (begin i r t w) k exit
same_value e h = rw (← e) h
