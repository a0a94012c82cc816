-- The halves alone: the number of each call on lent words, and the words after it. Document 01: "A half alone: the member takes a reply in
-- phase 1, its newest and stored records standing for the two message records, and goes to 3 or 6, and takes an outcome in phase 3 and
-- goes to 0. The host is lent the n host entries and takes submits and commits as above, by the fields in them."
use Rattle.std.specs.Prelude.{ℕ, Bool, cond, not, ◌&&◌, ◌||◌, List, eqb, leb, length}
use Rattle.std.proofs.Math.Option.{Option, none}
use Rattle.lists.specs.Functions.{put, inside}
use Rattle.model.specs.Records.{Value, Rec}
use Rattle.model.specs.Kinds.{Kind, is_size, fit_fields}
use Rattle.model.specs.Numbers.{or_else, fields_number, kind_number, begin_answer, crash_answer}
use Rattle.model.specs.Member.{Member, begun, replied, outcome, returned_by, crashed_of}
use Rattle.model.specs.Pairs.{halt_pairs}
use Rattle.model.specs.Host.{submitted, wins, entry_after, stored_after}
use Rattle.model.specs.Table.{member_in, member_words, block_number, host_in, stored_in, host_words, entries_number}

-- "Each leaves all that was lent as before and returns only its number"
abbrev pub unless_refused : ℕ → List ℕ → List ℕ → List ℕ
unless_refused number before changed = cond (eqb number 0) changed before

-- of a record that came in a message
unfoldable pub fit_record : ℕ → Rec → Bool
fit_record n r = fit_fields n r.member r.slot r.operation

-- The member half, on the words l of member i's block.

-- 1, 2, 3: what is lent
unfoldable pub lent_number : ℕ → ℕ → List ℕ → ℕ
lent_number n i l = or_else (cond (not (is_size n)) 1 0) (block_number n i (length l) (member_in n l))

-- and 4
unfoldable pub member_number : ℕ → ℕ → List ℕ → ℕ
member_number n i l = or_else (lent_number n i l) (cond (not (inside n i)) 4 0)

-- 1, 2, 3, the kind's 1, and from 4 on
unfoldable pub member_begin_number : Kind → ℕ → ℕ → List ℕ → ℕ → ℕ → ℕ
member_begin_number kind n i l r t =
    let m = member_in n l in
    or_else (lent_number n i l)
    (or_else (kind_number kind n)
    (begin_answer kind n m.phase m.crashed (m.own r) i r t))

unfoldable pub member_begin_words : Kind → ℕ → ℕ → List ℕ → ℕ → ℕ → Value → List ℕ
member_begin_words kind n i l r t v =
    unless_refused (member_begin_number kind n i l r t) l (member_words n (begun (member_in n l) r t v))

-- "10 .. a half in another phase than the message needs, or crashed"
unfoldable pub not_waiting : ℕ → Member → Bool
not_waiting phase m = not (eqb m.phase phase) || not (eqb m.crashed 0)

-- "15 a seals value above 3, or a reply or outcome with a field as above"
unfoldable pub reply_number : ℕ → ℕ → List ℕ → Rec → Rec → ℕ → ℕ
reply_number n i l newest stored seals =
    or_else (member_number n i l)
    (cond (not_waiting 1 (member_in n l)) 10
    (cond (not (leb seals 3 && (fit_record n newest && fit_record n stored))) 15
    0))

unfoldable pub reply_words : ℕ → ℕ → List ℕ → Rec → Rec → ℕ → List ℕ
reply_words n i l newest stored seals =
    unless_refused (reply_number n i l newest stored seals) l (member_words n (replied n i (member_in n l) newest stored seals))

-- the pairs of counts that the checks looked at; where the call is refused, nothing was looked at
unfoldable pub reply_pairs : ℕ → ℕ → List ℕ → Rec → Rec → ℕ → ℕ
reply_pairs n i l newest stored seals =
    cond (eqb (reply_number n i l newest stored seals) 0) (halt_pairs n i (member_in n l) newest stored seals) 0

-- an outcome is 1 accepted, 2 aborted
unfoldable pub outcome_number : ℕ → ℕ → List ℕ → ℕ → ℕ
outcome_number n i l result =
    or_else (member_number n i l)
    (cond (not_waiting 3 (member_in n l)) 10
    (cond (not (inside 2 result)) 15
    0))

unfoldable pub outcome_words : ℕ → ℕ → List ℕ → ℕ → List ℕ
outcome_words n i l result =
    unless_refused (outcome_number n i l result) l (member_words n (outcome (member_in n l) (eqb result 1)))

-- the value that taking an outcome hands back, or none
unfoldable pub outcome_returns : ℕ → ℕ → List ℕ → ℕ → Option Value
outcome_returns n i l result =
    cond (eqb (outcome_number n i l result) 0) (returned_by (member_in n l) (eqb result 1)) none

unfoldable pub member_crash_number : ℕ → ℕ → List ℕ → ℕ
member_crash_number n i l =
    let m = member_in n l in
    or_else (member_number n i l) (crash_answer n m.phase m.crashed i)

unfoldable pub member_crash_words : ℕ → ℕ → List ℕ → List ℕ
member_crash_words n i l =
    unless_refused (member_crash_number n i l) l (member_words n (crashed_of (member_in n l)))

-- The host half, on the words l of the n host entries.

-- 1, 2, 3, then 4, 5, 6, 7 by the fields of the submit or of the record; counts are not judged
unfoldable pub host_number : ℕ → List ℕ → ℕ → ℕ → ℕ → ℕ
host_number n l i r t =
    or_else (cond (not (is_size n)) 1 0)
    (or_else (entries_number n (length l) (host_in n l) (stored_in n l))
    (fields_number n i r t))

-- a submit by member i, on slot r, of type t, with its own count; the reply is the slot's newest and stored records
unfoldable pub submit_words : ℕ → List ℕ → ℕ → ℕ → ℕ → ℕ → List ℕ
submit_words n l i r t count =
    let host = host_in n l in
    unless_refused (host_number n l i r t) l
    (host_words n (put host r (submitted (host r) i count)) (stored_in n l))

unfoldable pub submit_newest : ℕ → List ℕ → ℕ → Rec
submit_newest n l r = (host_in n l r).newest

unfoldable pub submit_stored : ℕ → List ℕ → ℕ → Rec
submit_stored n l r = stored_in n l r

-- a commit of record c; the outcome is 1 accepted, 2 aborted, and 0 where it is refused
unfoldable pub commit_number : ℕ → List ℕ → Rec → ℕ
commit_number n l c = host_number n l c.member c.slot c.operation

unfoldable pub commit_outcome : ℕ → List ℕ → Rec → ℕ
commit_outcome n l c =
    cond (eqb (commit_number n l c) 0) (cond (wins (host_in n l c.slot) c) 1 2) 0

unfoldable pub commit_words : ℕ → List ℕ → Rec → List ℕ
commit_words n l c =
    let host = host_in n l in
    let stored = stored_in n l in
    let r = c.slot in
    unless_refused (commit_number n l c) l
    (host_words n (put host r (entry_after (host r) c)) (put stored r (stored_after (host r) (stored r) c)))
