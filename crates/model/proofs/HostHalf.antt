-- The host half is Algorithm 5's server. With document 01's 5.4 and 5.9 the mark that the newest submit of a slot names is the one in Pnd
-- and not in Abrt; HostPrinted.antt has that these two lines answer as the printed ones where each commit follows its own submit once.
use Prim.Native.Nat.{ℕ, ◌≤◌}
use mathlib.Core.Path.{◌≡◌, refl, sym, ap, ap₂, ◌∙◌}
use mathlib.Core.Bool.{and-true, Bool, true, false, not, ◌&&◌, ◌||◌}
use mathlib.Core.List.{List, [], ◌∷◌}
use native.Mathlib.Omega.{arith}
use lib.Dec.{eqb}
use borrow.Author.Tests.{eq-eqb, ne_eqb, eqb-true}
use Rattle.lists.specs.Functions.{put, inside, within}
use Rattle.lists.proofs.Functions.{on, both, apart, first, second, put_same, put_all, inside_low}
use Rattle.model.specs.Records.{Rec, opening}
use Rattle.model.specs.Kinds.{is_operation, barred, becomes_stored}
use Rattle.model.specs.Host.{Entry, submitted, wins, entry_after, stored_after}
use Rattle.model.specs.Board.{opened, opening_entry}
use Rattle.model.specs.Published.{Id, id_of, same_id, with_type, mark, Server, server_opened, ToServer, submit, commit, submit_r}
use Rattle.model.specs.Published.{line54, line54noted, line55, line56, line58, line59, line59noted, line512owner, line513}
use Rattle.model.specs.Published.{received, answer_to, server_answers}
use Rattle.model.specs.HostClaims.{Half, half_opened, half_after, half_answer, half_answers, fits, id_in, all_fit, noted_after}
use Rattle.model.specs.HostClaims.{noted_answer, noted_answers, waits_already, each_once, none_waiting, unasked, repeated, resubmitted}
use Rattle.model.specs.HostClaims.{on_slot1, sample, sample_answers, HalfAsPublished, HalfDiffers, SampleHolds}
use Rattle.model.proofs.Ids.{same_self, same_eq, fit_parts, none_both}
use Rattle.model.proofs.HostPrinted.{as_printed}

-- whether an entry's newest submit is that of an id, for its slot: `wins` reads an operation so
abbrev marks : Entry → Id → Bool
marks e a = eqb e.submit_member a.client && eqb e.submit_count a.count

module _ (e : Entry) (a b : Id) where
  -- it names one mark of a slot
  marks-one : a.reg ≡ b.reg → marks e b ≡ true → marks e a ≡ same_id (mark a) (mark b)
  unfolding mark with_type
  marks-one regs m = on (same_id (mark a) (mark b))
      (λ q. ap (marks e) (same_eq (mark a) (mark b) q) ∙ m ∙ sym q)
      (λ q. on (marks e a) (λ p. absurd (apart (ap (same_id (mark a)) (sym (equal p)) ∙ same_self (mark a)) q)) (λ p. p ∙ sym q))
    where
      named : (c : Id) → marks e c ≡ true → (e.submit_member ≡ c.client) × (e.submit_count ≡ c.count)
      named c p =
          let i = eqb e.submit_member c.client in
          let k = eqb e.submit_count c.count in
          (eqb-true e.submit_member c.client (first i k p), eqb-true e.submit_count c.count (second i k p))

      equal : marks e a ≡ true → mark a ≡ mark b
      equal p =
          let client = sym (named a p).0 ∙ (named b m).0 in
          let count = sym (named a p).1 ∙ (named b m).1 in
          λ i. record { client = client i; count = count i; operation = 0; reg = regs i }

  -- and one that it does not name is no other's
  marks-none : marks e b ≡ false → (marks e a && not (same_id (mark a) (mark b))) ≡ marks e a
  unfolding mark with_type
  marks-none m = on (same_id (mark a) (mark b))
      (λ q. let z : marks e a ≡ false = ap (marks e) (same_eq (mark a) (mark b) q) ∙ m in rw z)
      (λ q. rw q (and-true (marks e a)))

-- no id is (0, 0)
marks_blank : (n : ℕ) (a : Id) (newest : Rec) → fits n a ≡ true
    → marks (record { submit_member = 0; submit_count = 0; newest = newest }) a ≡ false
marks_blank n a newest f =
    let p : 1 ≤ a.client = inside_low n a.client (fit_parts n a f).0 in
    rw (ne_eqb 0 a.client (λ z. omega arith))

-- The half beside the server with document 01's lines.

-- in Pnd after 5.5 and not in Abrt after document 01's 5.4: the id submitted alone
newly : (p q : Bool) → ((p || q) && not (p && not q)) ≡ q
newly true true = refl
newly true false = refl
newly false true = refl
newly false false = refl

-- document 01's 5.9
refused : (p q : Bool) → (q || not p) ≡ not (p && not q)
refused true true = refl
refused true false = refl
refused false true = refl
refused false false = refl

-- in Pnd after 5.8 and not in Abrt
less : (p q s : Bool) → (p && not s && not q) ≡ (p && not q && not s)
less true true true = refl
less true true false = refl
less true false true = refl
less true false false = refl
less false q s = refl

record Beside (n : ℕ) (h : Half) (s : Server) : Type 0 where
  stored : (r : ℕ) → inside n r ≡ true → s.x r ≡ h.stored r
  newest : (r : ℕ) → inside n r ≡ true → s.lso r ≡ (h.host r).newest
  noted : (r : ℕ) (a : Id) → a.reg ≡ r → fits n a ≡ true → (s.pnd r (mark a) && not (s.abrt r (mark a))) ≡ marks (h.host r) a

beside_opened : (n : ℕ) → Beside n (half_opened n) server_opened
unfolding half_opened opened server_opened within opening_entry
beside_opened n = record {
  stored = λ r p. rw p;
  newest = λ r p. rw p;
  noted = λ r a e f. let p : inside n r ≡ true = rw e at (fit_parts n a f).1 in rw p (sym (marks_blank n a (opening r) f));
}

module _ (n : ℕ) (h : Half) (s : Server) (b : Beside n h s) where
  module _ (id : Id) (fit : fits n id ≡ true) where
    submit-answer : noted_answer s (submit id) ≡ half_answer h (submit id)
    unfolding noted_answer line56 half_answer
    submit-answer = let p = (fit_parts n id fit).1 in ap₂ submit_r (b.stored id.reg p) (b.newest id.reg p)

    submit-beside : Beside n (half_after h (submit id)) (noted_after s (submit id))
    unfolding half_after noted_after line54noted line55 submitted put mark with_type
    submit-beside =
        let e = submitted (h.host id.reg) id.client id.count in
        record {
          stored = b.stored;
          newest = put_all (λ r x. inside n r ≡ true → s.lso r ≡ x.newest) h.host id.reg e
              (b.newest id.reg)
              (λ r d. b.newest r);
          noted = λ r a at f. on (eqb r id.reg)
              (λ p. rw p (newly (s.pnd id.reg (mark a)) (same_id (mark a) (mark id))
              ∙ sym (marks-one e a id (at ∙ eqb-true r id.reg p)
              (both (eq-eqb id.client id.client refl) (eq-eqb id.count id.count refl)))))
              (λ p. rw p (b.noted r a at f));
        }

  module _ (op : Rec) (fit : fits n (id_of op) ≡ true) where
    abbrev of-op : Id
    of-op = mark (id_of op)

    verdict : line59noted of-op s ≡ not (wins (h.host op.slot) op)
    unfolding line59noted wins id_of mark with_type
    verdict = refused (s.pnd op.slot of-op) (s.abrt op.slot of-op) ∙ ap not (b.noted op.slot (id_of op) refl fit)

    commit-answer : noted_answer s (commit op) ≡ half_answer h (commit op)
    unfolding noted_answer half_answer
    commit-answer = rw verdict (on (wins (h.host op.slot) op) (λ t. rw t) (λ t. rw t))

    -- the marks after it, e being the slot's entry then
    decided : (e : Entry)
        → ((a : Id) → a.reg ≡ op.slot → fits n a ≡ true
        → (marks (h.host op.slot) a && not (same_id (mark a) of-op)) ≡ marks e a)
        → (r : ℕ) (a : Id) → a.reg ≡ r → fits n a ≡ true
        → ((line58 of-op s).pnd r (mark a) && not (s.abrt r (mark a))) ≡ marks (put h.host op.slot e r) a
    unfolding line58 id_of put mark with_type
    decided e same r a at f = on (eqb r op.slot)
        (λ p. let z : r ≡ op.slot = eqb-true r op.slot p in
        rw (p, z) (less (s.pnd op.slot (mark a)) (s.abrt op.slot (mark a)) (same_id (mark a) of-op)
        ∙ ap (λ x. x && not (same_id (mark a) of-op)) (b.noted op.slot a (at ∙ z) f)
        ∙ same a (at ∙ z) f))
        (λ p. rw p (b.noted r a at f))

    commit-beside : Beside n (half_after h (commit op)) (noted_after s (commit op))
    unfolding half_after noted_after line58 line512owner line513 entry_after stored_after becomes_stored id_of wins put
    commit-beside =
        let r = op.slot in
        let e = h.host r in
        let blank : Entry = record { submit_member = 0; submit_count = 0; newest = op } in
        on (wins e op)
        (λ t. rw (verdict, t) (record {
          stored = λ j w. on (eqb op.member op.slot)
              (λ q. rw q (on (eqb j r) (λ z. rw z) (λ z. rw z (b.stored j w))))
              (λ q. rw q (b.stored j w ∙ sym (ap (λ f. f j) (put_same h.stored r))));
          newest = λ j w. on (eqb j r) (λ z. rw z) (λ z. rw z (b.newest j w));
          noted = decided blank (λ a at f.
              rw (marks-one e a (id_of op) at t, marks_blank n a op f) (none_both (same_id (mark a) of-op)));
        }))
        (λ t. rw (verdict, t) (record {
          stored = λ j w. b.stored j w ∙ sym (ap (λ f. f j) (put_same h.stored r));
          newest = λ j w. b.newest j w ∙ sym (ap (λ f. (f j).newest) (put_same h.host r));
          noted = decided e (λ a at f. marks-none e a (id_of op) t);
        }))

message_answer : (n : ℕ) (h : Half) (s : Server) → Beside n h s → (message : ToServer)
    → fits n (id_in message) ≡ true → noted_answer s message ≡ half_answer h message
unfolding id_in
message_answer n h s b (submit id) f = submit-answer n h s b id f
message_answer n h s b (commit op) f = commit-answer n h s b op f

message_beside : (n : ℕ) (h : Half) (s : Server) → Beside n h s → (message : ToServer)
    → fits n (id_in message) ≡ true → Beside n (half_after h message) (noted_after s message)
unfolding id_in
message_beside n h s b (submit id) f = submit-beside n h s b id f
message_beside n h s b (commit op) f = commit-beside n h s b op f

half_noted : (n : ℕ) (messages : List ToServer) (h : Half) (s : Server) → Beside n h s
    → all_fit n messages ≡ true → noted_answers s messages ≡ half_answers h messages
unfolding all_fit noted_answers half_answers
half_noted n [] h s b f = refl
half_noted n (message ∷ messages) h s b f =
    let one = first (fits n (id_in message)) (all_fit n messages) f in
    let rest = second (fits n (id_in message)) (all_fit n messages) f in
    ap₂ ◌∷◌ (message_answer n h s b message one) (half_noted n messages _ _ (message_beside n h s b message one) rest)

pub half_as_published : (n : ℕ) (messages : List ToServer) → HalfAsPublished n messages
half_as_published n messages =
    let noted = half_noted n messages (half_opened n) server_opened (beside_opened n) in
    record {
      noted = noted;
      printed = λ f e. as_printed n messages f e ∙ noted f;
    }

-- The sample, and the differences.

pub sample_holds : SampleHolds
unfolding all_fit id_in fits inside is_operation barred sample on_slot1 each_once waits_already none_waiting id_of same_id with_type
    half_answers half_answer half_after half_opened opened opening_entry within put submitted wins entry_after stored_after becomes_stored
    sample_answers
    server_answers answer_to received server_opened line54 line55 line56 line58 line59 line512owner line513
sample_holds = record {
  fit = refl;
  once = refl;
  answers = refl;
  server = refl;
}

pub half_differs : (n : ℕ) (op : Rec) → fits n (id_of op) ≡ true → HalfDiffers n op
unfolding unasked repeated resubmitted id_of with_type
    half_answers half_answer half_after half_opened opened opening_entry within put submitted wins entry_after stored_after
    server_answers answer_to received server_opened line54 line55 line56 line58 line59 line512owner line513
half_differs n op f =
    let member = eq-eqb op.member op.member refl in
    let count = eq-eqb op.count op.count refl in
    let at = eq-eqb op.slot op.slot refl in
    let p : inside n op.slot ≡ true = (fit_parts n (id_of op) f).1 in
    let low : 1 ≤ op.member = inside_low n op.member (fit_parts n (id_of op) f).0 in
    let unmarked : eqb 0 op.member ≡ false = ne_eqb 0 op.member (λ z. omega arith) in
    record {
      unasked_server = refl;
      unasked_half = rw (p, unmarked);
      repeated_server = rw (at, at);
      repeated_half = rw (at, p, member, count, unmarked);
      resubmitted_server = λ t. rw (at, same_self (id_of op));
      resubmitted_half = λ t. rw (at, p, member, count);
    }
