-- A memory with other contents: its counts and its view are the same.
use Rattle.std.proofs.Common.{ℕ, List}
use Rattle.rlsf_base.specs.Out.{Change}
use Rattle.rlsf_base.specs.Space.{Space}

-- what it holds from a start on: bytes, and the changes of their states
abbrev pub with_contents : Space → ℕ → List ℕ → List Change → Space
with_contents m start bytes out = record { start = start; bytes = bytes; touches = m.touches; copied = m.copied; view = m.view; out = out }
