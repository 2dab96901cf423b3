-- Fields of eight bytes at an offset of a list of bytes, and their encoding: document 01, "All fields are unsigned, low byte first."
use Rattle.std.specs.Prelude.{ℕ, ◌+◌, ◌*◌, ◌/◌, ◌%◌, List, ◌++◌}
use Rattle.wire.specs.Bytes.{u32_at, le32}

unfoldable pub u64_at : List ℕ → ℕ → ℕ
u64_at b i = u32_at b i + 4294967296 * u32_at b (i + 4)

unfoldable pub le64 : ℕ → List ℕ
le64 n = le32 (n % 4294967296) ++ le32 (n / 4294967296)
