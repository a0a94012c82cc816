-- What is written of a message that fits are bytes, `bytes-encode`: each element of its encoding is below 256.
use Prim.Native.Nat.{ℕ, zero, suc, ◌+◌, ◌-◌, ◌*◌, ◌/◌, ◌%◌, ◌≤◌, ◌<◌}
use native.Mathlib.Omega.{arith}
use mathlib.Core.Path.{◌≡◌}
use mathlib.Core.Bool.{true}
use mathlib.Core.List.{List, [], ◌∷◌, ◌++◌}
use lib.Dec.{ltb}
use borrow.Author.Tests.{ltb-true, ltb-false}
use Rattle.lists.specs.Functions.{from}
use Rattle.lists.specs.Parts.{words, tabulate}
use Rattle.lists.proofs.Functions.{on, first, second, inside_high}
use Rattle.lists.proofs.Parts.{tabulate-at, tabulate-past}
use Rattle.model.specs.Records.{Rec}
use Rattle.model.specs.RecordWords.{record_words}
use Rattle.model.specs.Halves.{fit_record}
use Rattle.model.specs.Messages.{Message, submit, reply, commit, outcome, kind_of, length_of, number_bytes, byte_in}
use Rattle.model.specs.Messages.{record_byte, record_length, record_bytes, field_bytes, encode, fit_message, Bytes}
use Rattle.laws.proofs.Records.{head_words}
use Rattle.laws.proofs.Messages.{byte_first, byte_further, length_of_most, fit_small, encode_parts}

no_bytes : Bytes []
no_bytes i = omega arith

byte_more : (x : ℕ) (l : List ℕ) → x < 256 → Bytes l → Bytes (x ∷ l)
byte_more x l p q zero = p
byte_more x l p q (suc i) = q i

bytes_more : (p q : List ℕ) → Bytes p → Bytes q → Bytes (p ++ q)
bytes_more [] q a b = b
bytes_more (x ∷ p) q a b = byte_more x (p ++ q) (a 0) (bytes_more p q (λ i. a (suc i)) b)

bytes_tabulated : (n : ℕ) (f : ℕ → ℕ) → ((i : ℕ) → f i < 256) → Bytes (tabulate n f)
bytes_tabulated n f h i = on (ltb i n)
    (λ p. rw (tabulate-at n f i (ltb-true i n p)) (h i))
    (λ p. rw (tabulate-past n f i (ltb-false i n p)) (omega arith))

bytes_number : (x : ℕ) → Bytes (number_bytes x)
unfolding number_bytes
bytes_number x =
    byte_more (x / 16777216 % 256) (x / 65536 % 256 ∷ x / 256 % 256 ∷ x % 256 ∷ []) (omega arith)
    (byte_more (x / 65536 % 256) (x / 256 % 256 ∷ x % 256 ∷ []) (omega arith)
    (byte_more (x / 256 % 256) (x % 256 ∷ []) (omega arith)
    (byte_more (x % 256) [] (omega arith) no_bytes)))

three : (x y z u : ℕ) → (x < 256) × ((y < 256) × (z < 256)) → (i : ℕ) → i < 3 → words (x ∷ y ∷ z ∷ u ∷ []) i < 256
three x y z u f zero h = f.0
three x y z u f (suc zero) h = f.1.0
three x y z u f (suc (suc zero)) h = f.1.1
three x y z u f (suc (suc (suc i))) h = absurd (omega arith)

-- a record's first three bytes are its member, slot and type, which fit; the others are those of numbers
bytes_record : (n : ℕ) (r : Rec) → n ≤ 12 → fit_record n r ≡ true → Bytes (record_bytes n r)
unfolding record_bytes fit_record byte_in
bytes_record n r h e = bytes_tabulated (record_length n) (record_byte w) (λ i. on (ltb i 3)
    (λ p. let q = ltb-true i 3 p in
    rw (byte_first w i q, head_words n r i (omega arith)) (three r.member r.slot r.operation r.count f i q))
    (λ p. let q = ltb-false i 3 p in
    let s : i ≡ 3 + (0 * 4 + (i - 3)) = omega arith in
    rw (s, byte_further w 0 (i - 3)) (bytes_number (from w (3 + 0) ((i - 3) / 4)) ((i - 3) % 4))))
  where
    w : ℕ → ℕ
    w = words (record_words n r)

    f : (r.member < 256) × ((r.slot < 256) × (r.operation < 256))
    f = fit_small n r.member r.slot r.operation h e

bytes_fields : (n : ℕ) (m : Message) → n ≤ 12 → fit_message n m ≡ true → Bytes (kind_of m ∷ field_bytes n m)
unfolding fit_message kind_of field_bytes
bytes_fields n (submit i r t c) h e =
    let f = fit_small n i r t h e in
    byte_more 1 (i ∷ r ∷ t ∷ number_bytes c) (omega arith)
    (byte_more i (r ∷ t ∷ number_bytes c) f.0
    (byte_more r (t ∷ number_bytes c) f.1.0
    (byte_more t (number_bytes c) f.1.1 (bytes_number c))))
bytes_fields n (reply a b) h e =
    byte_more 2 (n ∷ record_bytes n a ++ record_bytes n b) (omega arith)
    (byte_more n (record_bytes n a ++ record_bytes n b) (omega arith)
    (bytes_more (record_bytes n a) (record_bytes n b)
    (bytes_record n a h (first (fit_record n a) (fit_record n b) e))
    (bytes_record n b h (second (fit_record n a) (fit_record n b) e))))
bytes_fields n (commit r) h e =
    byte_more 3 (n ∷ record_bytes n r) (omega arith)
    (byte_more n (record_bytes n r) (omega arith)
    (bytes_record n r h e))
bytes_fields n (outcome o) h e =
    let k = inside_high 2 o e in
    byte_more 4 (o ∷ []) (omega arith)
    (byte_more o [] (omega arith) no_bytes)

pub bytes_encode : (n : ℕ) (m : Message) → n ≤ 12 → fit_message n m ≡ true → Bytes (encode n m)
bytes_encode n m h e =
    let size = length_of (kind_of m) n in
    let k = length_of_most (kind_of m) n h in
    rw (encode_parts n m)
    (byte_more (size / 256) (size % 256 ∷ 1 ∷ kind_of m ∷ field_bytes n m) (omega arith)
    (byte_more (size % 256) (1 ∷ kind_of m ∷ field_bytes n m) (omega arith)
    (byte_more 1 (kind_of m ∷ field_bytes n m) (omega arith)
    (bytes_fields n m h e))))
