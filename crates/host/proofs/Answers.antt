-- What is known of a submit or a commit that is answered 0, and what it leaves and answers.
use Prim.Native.Nat.{ℕ}
use native.Mathlib.Omega.{arith}
use mathlib.Core.Path.{◌≡◌, refl, sym, ◌∙◌}
use mathlib.Core.Bool.{Bool, cond}
use mathlib.Core.List.{List}
use lib.Dec.{eqb}
use lib.ListN.{length}
use borrow.Author.Tests.{eqb-true}
use Rattle.lists.specs.Functions.{inside, put}
use Rattle.lists.specs.Parts.{words}
use Rattle.lists.proofs.Functions.{inside_low, inside_high}
use Rattle.lists.proofs.Refusals.{no_failure, no_number}
use Rattle.model.specs.Records.{Rec, record_within}
use Rattle.model.specs.Kinds.{most_members, is_size}
use Rattle.model.specs.Numbers.{fields_number}
use Rattle.model.specs.Host.{Entry, submitted, wins, entry_after, stored_after}
use Rattle.model.specs.Table.{host_size, host_of, stored_records_of, host_words, entries_number}
use Rattle.model.specs.Halves.{host_number, submit_words, commit_number, commit_outcome, commit_words}
use Rattle.laws.proofs.Tables.{host_back}
use Rattle.std.specs.Prelude.{Result, Ok, Err, IsErr}
use Rattle.rules.specs.declared.refusal.Refusal.{Refusal}
use Rattle.host.specs.declared.Verdict.{Verdict}
use Rattle.host.specs.Needs.{Slot}
use Rattle.host.specs.Verdicts.{outcome_in}

-- a call that no number refuses, on entries of a board of n
pub good_slot : (n : ℕ) (l : List ℕ) (i r t : ℕ) → host_number n l i r t ≡ 0 → Slot n r l
unfolding host_number entries_number fields_number
good_slot n l i r t h =
    let g1 = no_number _ h in
    let p1 = no_failure (is_size n) (omega arith) g1.0 in
    let g2 = no_number _ g1.1 in
    let p2 = no_failure (eqb (length l) (host_size n)) (omega arith) g2.0 in
    let p4 = no_failure (inside n i) (omega arith) g2.1 in
    let p5 = no_failure (inside n r) (omega arith) p4.1 in
    record {
      most = inside_high most_members n p1.0;
      long = eqb-true (length l) (host_size n) p2.0;
      slot_least = inside_low n r p5.0;
      slot_most = inside_high n r p5.0;
    }

-- Entries by what they decode to.
pub entries_of : (n : ℕ) (l : List ℕ) (host : ℕ → Entry) (stored : ℕ → Rec) → length l ≡ host_size n
    → host_of n (words l) ≡ host → stored_records_of n (words l) ≡ stored → l ≡ host_words n host stored
entries_of n l host stored h p q = sym (host_back n l h) ∙ rw (p, q)

-- What a submit and a commit leave and answer, by what the entries decode to.
module _ (n : ℕ) (l exit : List ℕ) (same : length exit ≡ length l) where
  pub submit_leaves : (i r t count : ℕ) → host_number n l i r t ≡ 0
      → host_of n (words exit) ≡ put (host_of n (words l)) r (submitted (host_of n (words l) r) i count)
      → stored_records_of n (words exit) ≡ stored_records_of n (words l)
      → exit ≡ submit_words n l i r t count
  unfolding submit_words
  submit_leaves i r t count h p q = rw h (entries_of n exit _ _ (same ∙ (good_slot n l i r t h).long) p q)

  pub commit_leaves : (c : Rec) → commit_number n l c ≡ 0
      → host_of n (words exit) ≡ put (host_of n (words l)) c.slot (entry_after (host_of n (words l) c.slot) c)
      → stored_records_of n (words exit)
      ≡ put (stored_records_of n (words l)) c.slot (stored_after (host_of n (words l) c.slot) (stored_records_of n (words l) c.slot) c)
      → exit ≡ commit_words n l c
  unfolding commit_words commit_number
  commit_leaves c h p q = rw h (entries_of n exit _ _ (same ∙ (good_slot n l c.member c.slot c.operation h).long) p q)

pub commit_answers : (n : ℕ) (l : List ℕ) (c : Rec) (won : Bool) → commit_number n l (record_within n c) ≡ 0
    → wins (host_of n (words l) c.slot) c ≡ won → cond won 1 2 ≡ commit_outcome n l (record_within n c)
unfolding commit_outcome record_within wins
commit_answers n l c won h p = rw (h, p)

-- a refused commit has no outcome
pub no_outcome : (r : Result Verdict Refusal) → IsErr r → outcome_in r ≡ 0
no_outcome (Ok verdict) h = cc
no_outcome (Err refusal) h = refl
