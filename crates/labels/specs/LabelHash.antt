-- The hashes of the labels that were read: a label whose hash was not seen was not used before. What a sheet is read as does
-- not depend on how labels are hashed; no contract of reading a sheet names it.
use Rattle.std.specs.Prelude.{ℕ, ◌+◌, ◌*◌, ◌%◌, ◌<◌, ◌≡◌, Bool, true, false, List, [], ◌∷◌, get_or, drop}
use Rattle.wire.specs.SheetFormat.{name_of}

-- a label's hash is below it
abbrev pub label_hashes : ℕ
label_hashes = 2048

-- the hash of some bytes that come after others with the hash h
unfoldable pub hash_from : ℕ → List ℕ → ℕ
hash_from h [] = h
hash_from h (x ∷ l) = hash_from ((h * 33 + x) % label_hashes) l

unfoldable pub label_hash : List ℕ → ℕ
label_hash l = hash_from 0 l

-- in the table `seen`, one entry for each hash, the hash of a label is seen
abbrev pub Seen : List Bool → List ℕ → Type 0
Seen seen l = get_or seen (label_hash l) false ≡ true

-- so are those of the first n names, whose records stand at these offsets
abbrev pub AllSeen : List ℕ → List Bool → List ℕ → ℕ → Type 0
AllSeen s seen offsets n = (i : ℕ) → i < n → Seen seen (name_of (drop (get_or offsets i 0) s)).label
