-- Bytes that two buffers have alike, and two buffers that are the same but for the sets that they show.
use Rattle.std.specs.Prelude.{ℕ, ◌+◌, ◌≤◌, ◌<◌, ◌*◌, ◌≡◌, List, get_or, length, drop}
use Rattle.wire.specs.Limits.{verdict_bytes, shown_bytes}
use Rattle.meaning.specs.Sheet.{Sheet, Group}
use Rattle.replies.specs.Shown.{shown_at}

-- the n bytes from offset i on are the same in b and c
pub record Alike (b c : List ℕ) (i n : ℕ) : Type 0 where
  pub at : (j : ℕ) → i ≤ j → j < i + n → get_or b j 0 ≡ get_or c j 0

-- bytes of a verdict that shows sets of n groups
abbrev pub shown_reply_bytes : ℕ → ℕ
shown_reply_bytes n = verdict_bytes + shown_bytes * n

-- Two buffers with verdicts and sets under s are the same but for the sets. Open are the ten bytes of each group's record that
-- hold its run and its mark, as far as the sets are: for kind 7 the marks of left and right groups are not.
pub record SameButSets (s : Sheet) (out out' : List ℕ) : Type 0 where
  pub sized : length out ≡ length out'
  pub verdict : Alike out out' 0 verdict_bytes
  pub frames : (g : ℕ) → Group s g → Alike out out' (shown_at g) 4
  pub rest : drop (shown_reply_bytes s.size) out ≡ drop (shown_reply_bytes s.size) out'
