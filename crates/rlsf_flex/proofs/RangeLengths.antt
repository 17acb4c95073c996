-- How long a range is asked for.
use Rattle.std.proofs.Common.{◌≡◌, ℕ, ◌%◌, ◌≤◌, Some, arith}
use Rattle.rlsf_model.specs.Growth.{range_length}
use Rattle.rlsf_model.specs.Terms.{Terms}
use Rattle.rlsf_model.proofs.RangeLengths.{range_length-is}

-- what is asked for is as whole as what is wanted, and no shorter
pub range_length-whole : (t : Terms) (e len : ℕ) → e % 32 ≡ 0 → range_length t e ≡ Some len → (e ≤ len) × (len % 32 ≡ 0)
range_length-whole t e len whole told = grind (arith, range_length-is)
