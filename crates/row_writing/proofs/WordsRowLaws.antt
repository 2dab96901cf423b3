-- The bytes of a row are its front, with length and kind as one field, and those of its words, one behind another.
use Prim.Native.Nat.{ℕ, suc, ◌+◌, ◌*◌, ◌≤◌}
use mathlib.Core.Path.{◌≡◌, refl}
use mathlib.Core.List.{List, ◌++◌, flat_map, append_assoc, append-nil}
use native.Mathlib.Omega.{arith}
use native.Mathlib.Numerals.{add-one}
use lib.ListN.{length, take, drop, get_or, length-take, length-drop}
use lib.Seq.{sets, take-add, drop-drop, drop-cons}
use Rattle.laws.proofs.SetsLaws.{sets_then}
use Rattle.wire.specs.Bytes.{le16, le32}
use Rattle.wire.specs.U64.{le64}
use Rattle.wire.specs.Edition.{Edition, row_kind, row_length}
use Rattle.wire.specs.Member.{Member, side_number}
use Rattle.wire.specs.Encoding.{encode_record, member_bytes, encode_row}
use Rattle.wire.proofs.EditionFacts.{row_parts, row_length_fits}
use Rattle.wire.proofs.Fields.{flat_append, le32_halves}
use Rattle.wire.proofs.MemberFacts.{member_size}
use Rattle.wire.proofs.U64Laws.{length_le64s}
use Rattle.rows.specs.RowsRead.{row_frame, row_words, word_bytes}
use Rattle.rows.proofs.RowBits.{words_bytes}
use Rattle.row_writing.specs.WordsRow.{words_row}

-- the bytes of n words from an index on
abbrev pub bytes_of : List ℕ → ℕ → ℕ → List ℕ
bytes_of words i n = flat_map le64 (take n (drop i words))

pub length_words : (words : List ℕ) (i n : ℕ) → i + n ≤ length words → length (bytes_of words i n) ≡ word_bytes * n
length_words words i n l =
    omega (arith, length_le64s (take n (drop i words)), length-take n (drop i words), length-drop i words)

-- two are put one behind the other, and two more behind these
eight : (x : ℕ) → length (le64 x) ≡ word_bytes
unfolding le64 le32
eight x = refl

pub two_words : (words : List ℕ) (i : ℕ) → i + 2 ≤ length words → (out : List ℕ) (at : ℕ) {before after : List ℕ}
    → before ≡ sets out at (le64 (get_or words i 0)) → after ≡ sets before (at + word_bytes) (le64 (get_or words (i + 1) 0))
    → after ≡ sets out at (bytes_of words i 2)
unfolding flat_map
two_words words i l out at e f =
    let all : bytes_of words i 2 ≡ le64 (get_or words i 0) ++ le64 (get_or words (i + 1) 0) =
    rw (drop-cons words i 0 (omega arith), drop-cons words (suc i) 0 (omega arith), append-nil, add-one i) in
    rw all (sets_then (le64 (get_or words i 0)) (le64 (get_or words (i + 1) 0)) out at e (rw (eight (get_or words i 0)) f))

pub four_words : (words : List ℕ) (i : ℕ) → i + 4 ≤ length words → (out : List ℕ) (at : ℕ) {before after : List ℕ}
    → before ≡ sets out at (bytes_of words i 2) → after ≡ sets before (at + 2 * word_bytes) (bytes_of words (i + 2) 2)
    → after ≡ sets out at (bytes_of words i 4)
four_words words i l out at e f =
    let all : bytes_of words i 4 ≡ bytes_of words i 2 ++ bytes_of words (i + 2) 2 =
    rw (take-add 2 2 (drop i words), drop-drop 2 i words, flat_append le64 (take 2 (drop i words)) (take 2 (drop (i + 2) words))) in
    rw all (sets_then (bytes_of words i 2) (bytes_of words (i + 2) 2) out at e (rw (length_words words i 2 (omega arith)) f))

-- the bytes of a row before its membership bytes
abbrev pub front_bytes : Edition → ℕ → ℕ → List ℕ
front_bytes e number side = le32 (row_frame e) ++ (le32 number ++ le16 side)

pub row_bytes_law : (e : Edition) (m : Member) (words : List ℕ) (i : ℕ) → i + row_words e ≤ length words
    → encode_row e (words_row e m words i) ≡ front_bytes e m.number (side_number m.side) ++ bytes_of words i (row_words e)
unfolding encode_row encode_record member_bytes
row_bytes_law e m words i l =
    let bits = bytes_of words i (row_words e) in
    let size : length (member_bytes m ++ bits) + 2 ≡ row_length e =
    omega (arith, member_size m bits, length_words words i (row_words e) l, words_bytes e, row_parts e) in
    rw (size, le32_halves (row_length e) (row_kind e) (row_length_fits e)) (simp append_assoc)
