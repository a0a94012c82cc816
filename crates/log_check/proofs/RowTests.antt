-- The tests of a row say whether it holds, clause by clause: by its fields, by its positions, and by its value where it is an ended read.
use Prim.Native.Nat.{ℕ, ◌≤◌, ◌<◌}
use mathlib.Core.Path.{◌≡◌, refl, sym}
use mathlib.Core.Bool.{Bool, true, false, not, ◌&&◌, ◌||◌}
use mathlib.Core.List.{List, [], ◌∷◌}
use mathlib.Core.Logic.{◌⊎◌, inl, inr, ⊎_elim}
use mathlib.Core.Option.{Option, none, some}
use native.Mathlib.Omega.{arith}
use lib.Dec.{eqb, ltb}
use borrow.Author.Tests.{eq-eqb, ne_eqb, lt-ltb, eqb-true, eqb-false, ltb-true}
use Rattle.lists.specs.Functions.{inside, Within}
use Rattle.lists.proofs.Functions.{on, both, first, second, either, apart, inside_in, inside_low, inside_high}
use Rattle.model.specs.Records.{read, write}
use Rattle.model.specs.Kinds.{is_operation, fit_fields, barred}
use Rattle.logs.specs.Log.{LogRow, row_before, last_written, Rises, InTurn, RowHolds}
use Rattle.log_check.specs.Remembered.{never, barred_until, bar_before, last_accepted, positions_test}

-- Fields.

operation_told : (t : ℕ) → is_operation t ≡ true → (t ≡ read) ⊎ (t ≡ write)
unfolding is_operation
operation_told t h = on (eqb t read)
    (λ e. inl (eqb-true t read e))
    (λ e. inr (eqb-true t write (rw e at h)))

is_operation_lem : (t : ℕ) → (t ≡ read) ⊎ (t ≡ write) → is_operation t ≡ true
unfolding is_operation
is_operation_lem t = ⊎_elim (λ e. rw (eq-eqb t read e)) (λ e. either (eqb t read) (eq-eqb t write e))

own_told : (i r t : ℕ) → not (barred i r t) ≡ true → t ≡ write → r ≡ i
unfolding barred
own_told i r t h e = on (eqb i r)
    (λ p. sym (eqb-true i r p))
    (λ p. let z : false ≡ true = rw (eq-eqb t write e, p) at h in absurd (apart z refl))

not_barred : (i r t : ℕ) → (t ≡ write → r ≡ i) → not (barred i r t) ≡ true
unfolding barred
not_barred i r t h = on (eqb t write)
    (λ e. rw (e, eq-eqb i r (sym (h (eqb-true t write e)))))
    (λ e. rw e)

is_within : (n k : ℕ) → inside n k ≡ true → Within n k
is_within n k h = record { least = inside_low n k h; most = inside_high n k h }

-- Positions, beside what is remembered of the rows above.

-- the member's row before it, by the place up to which that one bars
turn_bars : (row : LogRow) (before : Option LogRow) → 0 < row.begin_at → InTurn row before → bar_before before < row.begin_at
unfolding bar_before barred_until
turn_bars row none b h = b
turn_bars row (some p) b h = let off : p.end_at ≡ 0 → ⊥ = λ e. omega arith in rw (ne_eqb p.end_at 0 off) h.1

turn_told : (row : LogRow) (before : Option LogRow) → row.begin_at ≤ never → bar_before before < row.begin_at → InTurn row before
unfolding bar_before barred_until
turn_told row none m h = tt
turn_told row (some p) m h = on (eqb p.end_at 0)
    (λ e. let z : never < row.begin_at = rw e at h in absurd (omega arith))
    (λ e. let off : p.end_at ≡ 0 → ⊥ = eqb-false p.end_at 0 e in (omega arith, rw e at h))

rises_above : (row : LogRow) (above : List LogRow) → row.begin_at < row.accepted_at → Rises row above
    → last_accepted above < row.accepted_at
unfolding last_accepted
rises_above row [] b h = omega arith
rises_above row (p ∷ above) b h = h

rises_told : (row : LogRow) (above : List LogRow) → last_accepted above < row.accepted_at → Rises row above
unfolding last_accepted
rises_told row [] h = tt
rises_told row (p ∷ above) h = h

ended_told : (a e : ℕ) → (eqb e 0 || ltb a e) ≡ true → 0 < e → a < e
ended_told a e h p = let off : e ≡ 0 → ⊥ = λ z. omega arith in ltb-true a e (rw (ne_eqb e 0 off) at h)

is_ended : (a e : ℕ) → (0 < e → a < e) → (eqb e 0 || ltb a e) ≡ true
is_ended a e h = on (eqb e 0)
    (λ p. rw p)
    (λ p. let off : e ≡ 0 → ⊥ = eqb-false e 0 p in either (eqb e 0) (lt-ltb a e (h (omega arith))))

module _ (n : ℕ) (row : LogRow) (above : List LogRow) where
  abbrev pub fields_test : Bool
  fields_test = fit_fields n row.member row.slot row.operation && not (barred row.member row.slot row.operation)

  pub fields_of_lem : RowHolds n row above → fields_test ≡ true
  fields_of_lem h =
      let inside_of : (k : ℕ) → Within n k → inside n k ≡ true = λ k w. inside_in n k w.least w.most in
      both
      (both (both (inside_of row.member h.member) (inside_of row.slot h.slot)) (is_operation_lem row.operation h.operation))
      (not_barred row.member row.slot row.operation h.own_slot)

  abbrev bar : ℕ
  bar = bar_before (row_before row.member above)

  abbrev pub turn_test : Bool
  turn_test = positions_test bar (last_accepted above) row.begin_at row.accepted_at row.end_at

  pub turn_of : RowHolds n row above → turn_test ≡ true
  unfolding positions_test
  turn_of h =
      both (lt-ltb bar row.begin_at (turn_bars row (row_before row.member above) h.begins h.in_turn))
      (both (lt-ltb row.begin_at row.accepted_at h.begun)
      (both (lt-ltb (last_accepted above) row.accepted_at (rises_above row above h.begun h.rises))
      (is_ended row.accepted_at row.end_at h.ended)))

  -- The clauses, from the tests.

  module _ (fields : fields_test ≡ true) where
    abbrev numbers : Bool
    numbers = inside n row.member && inside n row.slot

    fits : (numbers && is_operation row.operation) ≡ true
    fits = first (fit_fields n row.member row.slot row.operation) (not (barred row.member row.slot row.operation)) fields

    numbers-in : numbers ≡ true
    numbers-in = first numbers (is_operation row.operation) fits

    pub member-within : Within n row.member
    member-within = is_within n row.member (first (inside n row.member) (inside n row.slot) numbers-in)

    pub slot-within : Within n row.slot
    slot-within = is_within n row.slot (second (inside n row.member) (inside n row.slot) numbers-in)

    own-slot : row.operation ≡ write → row.slot ≡ row.member
    own-slot =
        own_told row.member row.slot row.operation
        (second (fit_fields n row.member row.slot row.operation) (not (barred row.member row.slot row.operation)) fields)

    -- no begin is above `never`
    pub row-holds : row.begin_at ≤ never → turn_test ≡ true
        → (row.operation ≡ read → 0 < row.end_at → row.value ≡ last_written row.slot above) → RowHolds n row above
    unfolding positions_test
    row-holds small turn reads =
        let begun = ltb row.begin_at row.accepted_at in
        let rises = ltb (last_accepted above) row.accepted_at in
        let ends = eqb row.end_at 0 || ltb row.accepted_at row.end_at in
        let past = second (ltb bar row.begin_at) (begun && (rises && ends)) turn in
        let last = second begun (rises && ends) past in
        let above-bar = ltb-true bar row.begin_at (first (ltb bar row.begin_at) (begun && (rises && ends)) turn) in
        record {
          member = member-within;
          slot = slot-within;
          operation = operation_told row.operation (second numbers (is_operation row.operation) fits);
          begins = omega arith;
          own_slot = own-slot;
          rises = rises_told row above (ltb-true (last_accepted above) row.accepted_at (first rises ends last));
          begun = ltb-true row.begin_at row.accepted_at (first begun (rises && ends) past);
          ended = ended_told row.accepted_at row.end_at (second rises ends last);
          in_turn = turn_told row (row_before row.member above) small above-bar;
          reads = reads;
        }
