-- Document 01's 5.4 and 5.9, which go by marks, answer as the printed lines, which go by ids, where each commit follows its own submit once
-- and no submit comes again before its commit: then a mark names at most one id that waits.
use Prim.Native.Nat.{ℕ}
use mathlib.Core.Path.{◌≡◌, refl, sym, ap, ap₂, ◌∙◌}
use mathlib.Core.Bool.{or-false, and-true, Bool, true, false, not, ◌&&◌, ◌||◌}
use mathlib.Core.List.{List, [], ◌∷◌}
use mathlib.Core.Logic.{◌⊎◌, inl, inr, ⊎_elim}
use lib.Dec.{eqb}
use borrow.Author.Tests.{eqb-true, eqb-false, not-true}
use Rattle.lists.specs.Functions.{put}
use Rattle.lists.proofs.Functions.{on, both, either, neither, apart, first, second, fails}
use Rattle.model.specs.Records.{Rec, read, write}
use Rattle.model.specs.Kinds.{is_operation}
use Rattle.model.specs.Published.{Id, id_of, same_id, with_type, mark, Server, server_opened, ToServer, submit, commit, submit_r}
use Rattle.model.specs.Published.{commit_r, line54, line54noted, line55, line56, line58, line59, line59noted, line512owner}
use Rattle.model.specs.Published.{line513, received, answer_to, server_answers}
use Rattle.model.specs.HostClaims.{fits, id_in, all_fit, noted_after, noted_answer, noted_answers, waits_already, each_once, none_waiting}
use Rattle.model.proofs.Ids.{same_self, same_eq, not_same, mark_retyped, read_or_write, fit_parts}

-- s is the server with the printed lines, t with document 01's.
record Printed (waiting : Id → Bool) (s t : Server) : Type 0 where
  x : s.x ≡ t.x
  lso : s.lso ≡ t.lso
  typed : (a : Id) → waiting a ≡ true → is_operation a.operation ≡ true
  alone : (a b : Id) → waiting a ≡ true → waiting b ≡ true → mark a ≡ mark b → a ≡ b
  pending : (r : ℕ) (a : Id) → a.reg ≡ r → s.pnd r a ≡ waiting a
  noted : (r : ℕ) (a : Id) → a.reg ≡ r → waiting a ≡ true → t.pnd r (mark a) ≡ true
  abrt : (r : ℕ) (a : Id) → a.reg ≡ r → waiting a ≡ true → s.abrt r a ≡ t.abrt r (mark a)

-- ids of two slots are two
off_slot : (a b : Id) (r : ℕ) → a.reg ≡ r → eqb r b.reg ≡ false → same_id a b ≡ false
off_slot a b r at p = not_same a b (λ z. eqb-false r b.reg p (sym at ∙ ap (λ x. x.reg) z))

module _ (waiting : Id → Bool) (s t : Server) (h : Printed waiting s t) where
  module _ (id : Id) (operates : is_operation id.operation ≡ true) (new : waits_already waiting id ≡ false) where
    -- no id under this mark waits
    free : (a : Id) → waiting a ≡ true → mark a ≡ mark id → ⊥
    unfolding waits_already
    free a w e =
        let none = neither (waiting (with_type read id)) (waiting (with_type write id)) new in
        let under : (t : ℕ) → a.operation ≡ t → waiting (with_type t id) ≡ true =
        λ t p. sym (ap waiting (mark_retyped a id e ∙ ap (λ t. with_type t id) p)) ∙ w in
        ⊎_elim (λ p. apart (under read p) none.0) (λ p. apart (under write p) none.1)
        (read_or_write a.operation (h.typed a w))

    new-id : waiting id ≡ false
    new-id = on (waiting id) (λ p. absurd (free id p refl)) (λ p. p)

    -- who waits then: who did, or the id submitted
    abbrev more : Id → Bool
    more other = waiting other || same_id other id

    waited : (a : Id) → more a ≡ true → (waiting a ≡ true) ⊎ (a ≡ id)
    waited a w = on (waiting a) inl (λ p. inr (same_eq a id (rw p at w)))

    more-alone : (a b : Id) → more a ≡ true → more b ≡ true → mark a ≡ mark b → a ≡ b
    more-alone a b v w e = ⊎_elim
        (λ p. ⊎_elim (λ q. h.alone a b p q e) (λ q. absurd (free a p (e ∙ ap mark q))) (waited b w))
        (λ p. ⊎_elim (λ q. absurd (free b q (sym e ∙ ap mark p))) (λ q. p ∙ sym q) (waited b w))
        (waited a v)

    marked-same : (a : Id) → a ≡ id → same_id (mark a) (mark id) ≡ true
    marked-same a p = ap (λ x. same_id (mark x) (mark id)) p ∙ same_self (mark id)

    -- on its slot: in Pnd, and in Abrt by the printed line and by document 01's
    noted-on : (a : Id) → a.reg ≡ id.reg → more a ≡ true → (t.pnd id.reg (mark a) || same_id (mark a) (mark id)) ≡ true
    noted-on a at w = ⊎_elim
        (λ p. rw (h.noted id.reg a at p))
        (λ p. either (t.pnd id.reg (mark a)) (marked-same a p))
        (waited a w)

    abrt-on : (a : Id) → a.reg ≡ id.reg → more a ≡ true
        → s.pnd id.reg a ≡ (t.pnd id.reg (mark a) && not (same_id (mark a) (mark id)))
    abrt-on a at w = h.pending id.reg a at ∙ ⊎_elim
        (λ p. p ∙ sym (both (h.noted id.reg a at p) (ap not (not_same (mark a) (mark id) (free a p)))))
        (λ p. ap waiting p ∙ new-id ∙ sym (fails (t.pnd id.reg (mark a)) (ap not (marked-same a p))))
        (waited a w)

    submit-printed : Printed more (received line512owner (submit id) s) (noted_after t (submit id))
    unfolding received noted_after line54 line54noted line55 put mark with_type
    submit-printed = record {
      x = h.x;
      lso = h.lso;
      typed = λ a w. ⊎_elim (h.typed a) (λ p. rw p operates) (waited a w);
      alone = more-alone;
      pending = λ r a at. on (eqb r id.reg)
          (λ p. rw p (ap (λ x. x || same_id a id) (h.pending id.reg a (at ∙ eqb-true r id.reg p))))
          (λ p. rw (p, off_slot a id r at p, or-false (waiting a)) (h.pending r a at));
      noted = λ r a at w. on (eqb r id.reg)
          (λ p. rw p (noted-on a (at ∙ eqb-true r id.reg p) w))
          (λ p. rw p (h.noted r a at (rw (off_slot a id r at p, or-false (waiting a)) at w)));
      abrt = λ r a at w. on (eqb r id.reg)
          (λ p. rw p (abrt-on a (at ∙ eqb-true r id.reg p) w))
          (λ p. rw p (h.abrt r a at (rw (off_slot a id r at p, or-false (waiting a)) at w)));
    }

  module _ (op : Rec) (came : waiting (id_of op) ≡ true) where
    same-verdict : line59 (id_of op) s ≡ line59noted (mark (id_of op)) t
    unfolding line59 line59noted mark with_type
    same-verdict =
        let id = id_of op in
        rw (h.noted id.reg id refl came) (h.abrt id.reg id refl came ∙ sym (or-false (t.abrt id.reg (mark id))))

    abbrev less : Id → Bool
    less other = waiting other && not (same_id other (id_of op))

    still : (a : Id) → less a ≡ true → waiting a ≡ true
    still a w = first (waiting a) (not (same_id a (id_of op))) w

    -- who still waits has another mark
    other-mark : (a : Id) → less a ≡ true → same_id (mark a) (mark (id_of op)) ≡ false
    other-mark a w = not_same (mark a) (mark (id_of op)) (λ e.
        let z : a ≡ id_of op = h.alone a (id_of op) (still a w) came e in
        apart (rw z (same_self (id_of op))) (not-true (same_id a (id_of op)) (second (waiting a) (not (same_id a (id_of op))) w)))

    removed-printed : Printed less (line58 (id_of op) s) (line58 (mark (id_of op)) t)
    unfolding line58 put mark with_type
    removed-printed =
        let id = id_of op in
        record {
          x = h.x;
          lso = h.lso;
          typed = λ a w. h.typed a (still a w);
          alone = λ a b v w. h.alone a b (still a v) (still b w);
          pending = λ r a at. on (eqb r id.reg)
              (λ p. rw p (ap (λ x. x && not (same_id a id)) (h.pending id.reg a (at ∙ eqb-true r id.reg p))))
              (λ p. rw (p, off_slot a id r at p, and-true (waiting a)) (h.pending r a at));
          noted = λ r a at w. on (eqb r id.reg)
              (λ p. rw (p, h.noted id.reg a (at ∙ eqb-true r id.reg p) (still a w), other-mark a w))
              (λ p. rw p (h.noted r a at (still a w)));
          abrt = λ r a at w. h.abrt r a at (still a w);
        }

    commit-printed : Printed less (received line512owner (commit op) s) (noted_after t (commit op))
    unfolding received noted_after line58 line59 line512owner line513
    commit-printed =
        let g = removed-printed in
        on (line59noted (mark (id_of op)) t)
        (λ p. rw (same-verdict, p) g)
        (λ p. rw (same-verdict, p) (record {
          x = ap (λ x. (line512owner op (record { pnd = s.pnd; abrt = s.abrt; x = x; lso = s.lso })).x) h.x;
          lso = ap (λ f. put f (id_of op).reg op) h.lso;
          typed = g.typed;
          alone = g.alone;
          pending = g.pending;
          noted = g.noted;
          abrt = g.abrt;
        }))

noted_printed : (n : ℕ) (messages : List ToServer) (waiting : Id → Bool) (s t : Server) → Printed waiting s t
    → all_fit n messages ≡ true → each_once waiting messages ≡ true → server_answers line512owner s messages ≡ noted_answers t messages
unfolding all_fit id_in each_once server_answers noted_answers answer_to noted_answer line56
noted_printed n [] waiting s t h f e = refl
noted_printed n (submit id ∷ messages) waiting s t h f e =
    let operates = (fit_parts n id (first (fits n id) (all_fit n messages) f)).2 in
    on (waits_already waiting id)
    (λ p. let z : false ≡ true = rw p at e in absurd (apart z refl))
    (λ p. ap₂ ◌∷◌ (ap₂ submit_r (ap (λ f. f id.reg) h.x) (ap (λ f. f id.reg) h.lso))
    (noted_printed n messages _ _ _ (submit-printed waiting s t h id operates p) (second (fits n id) (all_fit n messages) f) (rw p at e)))
noted_printed n (commit op ∷ messages) waiting s t h f e =
    let rest = each_once (λ other. waiting other && not (same_id other (id_of op))) messages in
    let came = first (waiting (id_of op)) rest e in
    ap₂ ◌∷◌ (ap (λ x. commit_r (not x)) (same-verdict waiting s t h op came))
    (noted_printed n messages _ _ _ (commit-printed waiting s t h op came)
    (second (fits n (id_of op)) (all_fit n messages) f) (second (waiting (id_of op)) rest e))

opened_printed : Printed none_waiting server_opened server_opened
unfolding server_opened none_waiting
opened_printed = record {
  x = refl;
  lso = refl;
  typed = λ a w. absurd (apart w refl);
  alone = λ a b w. absurd (apart w refl);
  pending = λ r a at. refl;
  noted = λ r a at w. absurd (apart w refl);
  abrt = λ r a at w. refl;
}

-- from the opening
pub as_printed : (n : ℕ) (messages : List ToServer) → all_fit n messages ≡ true → each_once none_waiting messages ≡ true
    → server_answers line512owner server_opened messages ≡ noted_answers server_opened messages
as_printed n messages = noted_printed n messages none_waiting server_opened server_opened opened_printed
