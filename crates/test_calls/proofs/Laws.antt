-- What is said once of records and fields laid one after the other, and of what the reader, the writer and a reply's half refuse.
use Rattle.std.proofs.Common.{◌≡◌, ℕ, ◌+◌, ◌≤◌, eqb, List, [], ◌∷◌, ◌++◌, length, take, drop, set, sym}
use Rattle.std.proofs.Common.{ap, ◌∙◌, append_assoc, append-nil, arith, length-append, length-drop, drop_of_length-le}
use Rattle.std.proofs.Common.{length-take-le, take_at, drop_at, eqb-true}
use mathlib.Core.Option.{Option, none, some}
use lib.Seq.{sets-eq}
use Rattle.lists.specs.Parts.{replaced}
use Rattle.lists.proofs.Functions.{on, inside_high}
use Rattle.model.specs.Records.{Rec}
use Rattle.model.specs.RecordWords.{record_size, record_words}
use Rattle.model.specs.Halves.{reply_number, reply_pairs}
use Rattle.model.specs.Messages.{Message as Wire, kind_of, read_number, decode, write_number, writable, written_length}
use Rattle.laws.proofs.Records.{length-record_words}
use Rattle.laws.proofs.Messages.{length-encode, length_of_most, writable_of}
use Rattle.records.specs.Meaning.{record_in}
use Rattle.messages.specs.Meaning.{fields_in}
use Rattle.messages.specs.declared.Message.{Message}
use Rattle.rules.proofs.Refusals.{refuses, kept}
use Rattle.rules.specs.Refusals.{number}
use Rattle.rules.specs.declared.refusal.Refusal.{Refusal}
use Rattle.test_calls.specs.Handed.{record_due, both_due, fields_due, both_words, field_words}

-- Two lists written one after the other to the end of a list.
pub both_replaced : (l p q : List ℕ) (a b : ℕ) → a + length p ≡ b → length l ≡ b + length q
    → replaced (replaced l a p) b q ≡ take a l ++ (p ++ q)
both_replaced l p q a b e long =
    let first : length (take a l) ≡ a = length-take-le a l (omega arith) in
    let head : length (take a l ++ p) ≡ b = length-append (take a l) p ∙ ap (λ k. k + length p) first ∙ e in
    let rest = drop (length p) (drop a l) in
    let short : length rest ≤ length q = simp length-drop (omega arith) in
    ap (λ m. take b m ++ (q ++ drop (length q) (drop b m))) (sym (append_assoc (take a l) p rest))
    ∙ ap (λ m. m ++ (q ++ drop (length q) (drop b ((take a l ++ p) ++ rest)))) (take_at (take a l ++ p) rest b head)
    ∙ ap (λ m. (take a l ++ p) ++ (q ++ drop (length q) m)) (drop_at (take a l ++ p) rest b head)
    ∙ ap (λ m. (take a l ++ p) ++ (q ++ m)) (drop_of_length-le rest short)
    ∙ ap (λ m. (take a l ++ p) ++ m) (append-nil q)
    ∙ append_assoc (take a l) p q

-- The first six words of a list, stored one by one.
pub six_stored : (l : List ℕ) (a b c d e f : ℕ) → 6 ≤ length l
    → take 6 (set (set (set (set (set (set l 0 a) 1 b) 2 c) 3 d) 4 e) 5 f) ≡ a ∷ b ∷ c ∷ d ∷ e ∷ f ∷ []
six_stored l a b c d e f h =
    ap (take 6) (sets-eq (a ∷ b ∷ c ∷ d ∷ e ∷ f ∷ []) l 0 h)

-- The only word of a list, stored.
pub one_stored : (l : List ℕ) (x : ℕ) → length l ≡ 1 → set l 0 x ≡ x ∷ []
one_stored l x e = sets-eq (x ∷ []) l 0 (omega arith) ∙ ap (λ r. x ∷ r) (drop_of_length-le l {i = 1} (omega arith))

-- Records as a board of twelve has them.
pub record_long : (r : Rec) → length (record_words 12 r) ≡ record_due
unfolding record_size
record_long r = length-record_words 12 r

pub both_stored : (l : List ℕ) (at : ℕ) (newest stored : Rec) → length l ≡ at + both_due
    → replaced (replaced l at (record_words 12 newest)) (at + record_due) (record_words 12 stored) ≡ take at l ++ both_words newest stored
unfolding both_words
both_stored l at newest stored long =
    both_replaced l (record_words 12 newest) (record_words 12 stored) at (at + record_due)
    (ap (λ k. at + k) (record_long newest)) (omega (arith, record_long stored))

-- A message's fields: its six numbers stored one by one, then its records.
pub fields_stored : (l : List ℕ) (m : Message) → length l ≡ fields_due
    → take 6 (set (set (set (set (set (set l 0 m.kind) 1 m.member) 2 m.slot) 3 m.operation) 4 m.count) 5 m.outcome)
    ++ both_words (record_in m.newest) (record_in m.stored)
    ≡ field_words (fields_in m)
unfolding field_words
fields_stored l m long =
    ap (λ h. h ++ both_words (record_in m.newest) (record_in m.stored))
    (six_stored l m.kind m.member m.slot m.operation m.count m.outcome (omega arith))

-- What the writer writes is few bytes.
encoded_small : (n : ℕ) (m : Option Wire) → n ≤ 12 → written_length n m ≤ 1235
unfolding written_length
encoded_small n none h = omega arith
encoded_small n (some m) h = omega (arith, length-encode n m, length_of_most (kind_of m) n h)

pub written_small : (n : ℕ) (m : Option Wire) (room : ℕ) → written_length n (writable n m room) ≤ 1235
unfolding writable written_length
written_small n m room = on (eqb (write_number n m room) 0)
    (λ p. rw p (encoded_small n m (inside_high 12 n (writable_of n m room (eqb-true (write_number n m room) 0 p)).size)))
    (λ p. rw p (omega arith))

-- What is refused: no message was read, no byte written, no pairs of counts compared.
pub unread : (n : ℕ) (l : List ℕ) (refusal : Refusal) → number refusal ≡ read_number n l → decode n l ≡ none
unfolding decode
unread n l refusal e = sym (kept none _ refusal e)

pub unwritten : (n room : ℕ) (m : Option Wire) (refusal : Refusal) → number refusal ≡ write_number n m room
    → written_length n (writable n m room) ≡ 0
unfolding writable written_length
unwritten n room m refusal e = rw (← e, refuses refusal)

pub uncompared : (n i : ℕ) (l : List ℕ) (newest stored : Rec) (seals : ℕ) (refusal : Refusal)
    → number refusal ≡ reply_number n i l newest stored seals → reply_pairs n i l newest stored seals ≡ 0
unfolding reply_pairs
uncompared n i l newest stored seals refusal e = rw (← e, refuses refusal)
