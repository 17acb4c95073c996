-- Memories of which no byte is raw.
use Rattle.std.specs.Prelude.{◌≡◌, ℕ, ◌≤◌, true}
use Rattle.rlsf_base.specs.Out.{here, is_own}
use Rattle.rlsf_base.specs.Space.{Space, out_at}

-- no byte of a memory is raw: each byte that is its own is here
unfoldable pub IsSettled : Space → Type 0
IsSettled m = (a : ℕ) → m.start ≤ a → is_own (out_at m a) ≡ true → out_at m a ≡ here
