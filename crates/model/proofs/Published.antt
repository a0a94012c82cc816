-- The member is Algorithm 3's client, with document 01's differences; and the two printed lines that halt a member with an honest server,
-- and the line that stood at 5.12 before own reads. Line by line, by computing both.
use Prim.Native.Nat.{ℕ, ◌/◌, ◌%◌}
use mathlib.Core.Path.{◌≡◌, refl, sym, ◌∙◌, ap, fun_ext}
use mathlib.Core.Bool.{Bool, true, false, cond, not, ◌&&◌}
use mathlib.Core.Logic.{⊎_elim}
use mathlib.Core.Option.{none}
use native.Mathlib.Omega.{arith}
use lib.Dec.{eqb}
use borrow.Author.Tests.{eq-eqb, ne_eqb, eqb-true, eqb-false, not-false}
use Rattle.lists.specs.Functions.{put, each}
use Rattle.lists.proofs.Functions.{on, within_at}
use Rattle.model.specs.Rows.{larger, below, matrix_below, comparable, zero_row, zero_matrix}
use Rattle.model.specs.Records.{Value, Rec, read, write, opening, zero_record}
use Rattle.model.specs.Kinds.{is_operation, barred}
use Rattle.model.specs.Member.{Member, idle, begun, answered, check21, check22, check23, check24, check25, check26, check27}
use Rattle.model.specs.Member.{halt_number, joined, own_record, passed, failed, replied, judged, completed, took_over, dropped}
use Rattle.model.specs.Member.{outcome, returned_by}
use Rattle.model.specs.Board.{no_entry, opening_entry, opened, sent_record}
use Rattle.model.specs.Published.{id_of, Called, reads, writes, line33, line34, line37, line38, line38others, line38own, line39}
use Rattle.model.specs.Published.{line310, line312, line312added, line313, line314, line315, line316, line319, op_of, line321}
use Rattle.model.specs.Published.{line323, line326}
use Rattle.model.specs.Published.{line327, line327writes, line328, after_ok, after_ok_writes, after_abort, after_abort_amended, Client}
use Rattle.model.specs.Published.{client_opened, Server, server_opened, submit, commit, line54, line55, line58, line59, line512}
use Rattle.model.specs.Published.{line512owner, line512writes, line513, received, same_id}
use Rattle.model.specs.PublishedClaims.{variables, resting, working, submit_of, newest_held, stored_held, MemberAsPublished}
use Rattle.model.specs.PublishedClaims.{OpenedAsPublished, OwnerAsPrinted}
use Rattle.model.proofs.Ids.{read_or_write}

eqb_swap : (a b : ℕ) → eqb a b ≡ eqb b a
eqb_swap a b = on (eqb a b)
    (λ p. p ∙ sym (eq-eqb b a (sym (eqb-true a b p))))
    (λ p. p ∙ sym (ne_eqb b a (λ e. eqb-false a b p (sym e))))

-- both seals held at 3
sealed : (seals : ℕ) → eqb seals 3 ≡ line37 (newest_held seals) (stored_held seals)
unfolding line37 newest_held stored_held
sealed seals = on (eqb seals 3)
    (λ p. rw (eqb-true seals 3 p))
    (λ p. on (eqb (seals % 2) 1)
    (λ q. let e = eqb-true (seals % 2) 1 q in
    rw (p, q, ne_eqb (seals / 2) 1 (λ h. eqb-false seals 3 p (omega arith))))
    (λ q. rw (p, q)))

-- Seven checks in order: the state that the first failure leaves, by its number; phase 3 exactly if none fails.
module _ (n i : ℕ) (m : Member) (newest stored : Rec) where
  unfoldable down : Bool → Bool → Bool → Bool → Bool → Bool → Bool → Member
  down a b c d e f g =
      cond (not a) (failed m 21)
      (cond (not b) (failed m 22)
      (cond (not c) (failed m 23)
      (cond (not d) (failed m 24)
      (cond (not e) (failed m 25)
      (cond (not f) (failed m 26)
      (cond (not g) (failed m 27)
      (passed n i m newest stored)))))))

  first-failed : (a b c d e f g : Bool)
      → let number : ℕ =
      cond (not a) 21 (cond (not b) 22 (cond (not c) 23 (cond (not d) 24 (cond (not e) 25 (cond (not f) 26 (cond (not g) 27 0)))))) in
      (cond (eqb number 0) (passed n i m newest stored) (failed m number) ≡ down a b c d e f g)
      × (eqb (down a b c d e f g).phase 3 ≡ (a && (b && c) && d && e && f && g))
  unfolding down failed passed
  first-failed false b c d e f g = (refl, refl)
  first-failed true false c d e f g = (refl, refl)
  first-failed true true false d e f g = (refl, refl)
  first-failed true true true false e f g = (refl, refl)
  first-failed true true true true false f g = (refl, refl)
  first-failed true true true true true false g = (refl, refl)
  first-failed true true true true true true false = (refl, refl)
  first-failed true true true true true true true = (refl, refl)

  -- 3.8 and 3.10 have their equations the other way round
  third-check : check23 i m.slot m.accepted newest.matrix ≡ line38own i m.slot (working m) newest
  unfolding check23 line38own working variables
  third-check = eqb_swap (newest.matrix m.slot i) (m.accepted m.slot)

  fifth-check : check25 n m.slot stored.matrix newest.matrix ≡ line310 n m.slot stored newest
  unfolding check25 line310
  fifth-check = rw (eqb_swap (stored.matrix m.slot m.slot) (newest.matrix m.slot m.slot))

  module _ (seals : ℕ) where
    the-first : replied n i m newest stored seals
        ≡ down
        (line37 (newest_held seals) (stored_held seals))
        (line38others n i m.slot (working m) newest)
        (line38own i m.slot (working m) newest)
        (line39 m.slot stored)
        (line310 n m.slot stored newest)
        (line312 n m.slot (working m) newest)
        (line312added n i m.slot (working m) newest)
    unfolding replied halt_number check21 check22 check24 check26 check27 line38others line39 id_of line312 line312added working variables
    the-first = rw (← sealed seals, ← third-check, ← fifth-check) (first-failed _ _ _ _ _ _ _).0

    all-checks : eqb (replied n i m newest stored seals).phase 3
        ≡ (line37 (newest_held seals) (stored_held seals)
        && line38 n i m.slot (working m) newest
        && line39 m.slot stored
        && line310 n m.slot stored newest
        && line312 n m.slot (working m) newest
        && line312added n i m.slot (working m) newest)
    unfolding line38
    all-checks = ap (λ left. eqb left.phase 3) the-first ∙ (first-failed _ _ _ _ _ _ _).1

-- the matrix of 3.13 to 3.15
same_matrix : (n i r : ℕ) (c : Client) (lso : Rec)
    → joined n i r (c.op_cnt r) c.tsm_comp lso.matrix ≡ line315 i r c (line314 r lso (line313 n c lso))
unfolding joined larger line315 line314 line313 put
same_matrix n i r c lso = fun_ext λ j. on (eqb j r) (λ p. rw (p, eq-eqb r r refl)) (λ p. rw p)

same_op : (n i : ℕ) (m : Member) (newest stored : Rec)
    → (passed n i m newest stored).first ≡ op_of n i m.operation m.slot (working m) newest
unfolding passed own_record op_of line319 line34 working variables
same_op n i m newest stored = rw (same_matrix n i m.slot (working m) newest)

same_sent : (n i : ℕ) (m : Member) (newest stored : Rec)
    → sent_record i (passed n i m newest stored) ≡ op_of n i m.operation m.slot (working m) newest
unfolding sent_record passed own_record
same_sent n i m newest stored = same_op n i m newest stored

same_accepted : (m : Member)
    → variables (outcome m true) m.pending ≡ after_ok_writes m.operation m.slot m.first (working m)
unfolding working variables outcome completed dropped took_over after_ok_writes line321 line326 line327 line327writes
same_accepted m = on (eqb m.operation write) (λ p. rw p) (λ p. rw p)

same_return : (m : Member) (won : Bool) → returned_by m won ≡ cond won (line328 m.operation m.second) none
unfolding returned_by line328
same_return m true = refl
same_return m false = refl

-- a read carries value_suc, so that it stays what it is at 3.27
same_whole : (n i : ℕ) (m : Member) (r t : ℕ) (v : Value) (newest stored : Rec)
    → let c = line316 t v (line33 r (resting m)) in
    resting (outcome (judged (passed n i (answered (begun m r t v) newest stored) newest stored) true) true)
    ≡ after_ok r (op_of n i t r c newest) c
unfolding resting variables begun answered passed own_record judged outcome completed dropped took_over line316 line33 after_ok
    line321 line326
    line327 op_of line319
same_whole n i m r t v newest stored =
    let matrices = same_matrix n i r (line316 t v (line33 r (resting m))) newest in
    on (eqb t write) (λ p. rw (matrices, p)) (λ p. rw (matrices, p))

-- number 7 and Algorithm 1: a write is to one's own register, and a read is of any
called : (i r t : ℕ) → is_operation t ≡ true → barred i r t ≡ false → Called i t r
unfolding barred
called i r t h b = ⊎_elim
    (λ is_read. rw is_read (reads r))
    (λ is_write. let own : i ≡ r = eqb-true i r (not-false (eqb i r) (rw is_write at b)) in rw is_write (rw (← own) writes))
    (read_or_write t h)

not_barred : (i r t : ℕ) → Called i t r → barred i r t ≡ false
unfolding barred
not_barred i r t (reads j) = refl
not_barred i r t writes = rw (eq-eqb i i refl)

pub member_as_published : (n i : ℕ) → MemberAsPublished n i
unfolding resting working variables idle client_opened begun submit_of line33 line34 line316 outcome dropped after_abort_amended
    line323 down
member_as_published n i = record {
  calls = λ r t h. (called i r t h, not_barred i r t);
  opens = refl;
  begins = λ m r t v. refl;
  submits = λ m r t v. refl;
  checks = all-checks n i;
  halts = the-first n i;
  commits = same_op n i;
  sends = same_sent n i;
  accepts = same_accepted;
  aborts = λ m. refl;
  returns = same_return;
  whole = same_whole n i;
}

pub opened_as_published : (n : ℕ) → OpenedAsPublished n
unfolding opened opening_entry server_opened
opened_as_published n = record {
  members = λ i. refl;
  stored = λ r low high. within_at n zero_record opening r low high;
  newest = λ r low high. ap (λ e. e.newest) (within_at n no_entry opening_entry r low high);
}

pub owner_as_printed : OwnerAsPrinted
unfolding line512 line512owner line512writes id_of
owner_as_printed = record {
  stores = λ op s own. rw (eq-eqb op.member op.slot own, own);
  leaves = λ op s other. rw (ne_eqb op.member op.slot other);
  writes_before = λ op s is_write own. rw (is_write, own);
  reads_before = λ op s is_read. rw is_read;
}

-- Why the lines differ: runs in which an honest server makes a client halt.

-- 3.21, n = 3: clients 1 and 2 read register 3, both on what the opened server answers; 1 is aborted, 2 is not. 2 writes register 2.
-- When 1 reads that register, it halts at 3.12 (document 01's case P7).
pub line321-halts :
    let began = line33 3 client_opened in
    let one = after_abort (op_of 3 1 read 3 began (opening 3)) began in
    let two = line33 2 (after_ok 3 (op_of 3 2 read 3 began (opening 3)) began) in
    line312 3 2 one (op_of 3 2 write 2 two (opening 2)) ≡ false
unfolding line33 client_opened after_abort after_ok line312 op_of line319 line34 line313 line314 line315 line321 line323 line326 line327
    comparable below each put opening zero_matrix zero_row
line321-halts = refl

-- 5.12, n = 2: client 2 reads register 1. When client 1 reads register 2, it halts at 3.10.
pub line512-halts :
    let op = op_of 2 2 read 1 (line33 1 client_opened) (opening 1) in
    let server = received line512 (commit op) (received line512 (submit (id_of op)) server_opened) in
    line310 2 2 (server.x 2) (server.lso 2) ≡ false
unfolding line33 client_opened op_of line319 line34 line313 line314 line315 line310 matrix_below below each put opening zero_matrix zero_row
    received id_of same_id server_opened line54 line55 line58 line59 line512 line513
line512-halts = refl

-- The line before own reads, writes alone stored, n = 2: client 1 reads its own register. When client 2 reads it, it halts at 3.10. With
-- the third amendment it does not.
pub writes_alone_halts :
    let op = op_of 2 1 read 1 (line33 1 client_opened) (opening 1) in
    let left : (Rec → Server → Server) → Server = λ store. received store (commit op) (received store (submit (id_of op)) server_opened) in
    (line310 2 1 ((left line512writes).x 1) ((left line512writes).lso 1) ≡ false)
    × (line310 2 1 ((left line512owner).x 1) ((left line512owner).lso 1) ≡ true)
unfolding line33 client_opened op_of line319 line34 line313 line314 line315 line310 matrix_below below each put opening zero_matrix zero_row
    received id_of same_id server_opened line54 line55 line58 line59 line512writes line512owner line513
writes_alone_halts = (refl, refl)
