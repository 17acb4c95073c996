-- A pool for objects has room for their bytes.
use Rattle.std.proofs.Common.{◌≡◌, ℕ, ◌*◌, ◌≤◌, Some, IsTrue, arith}
use Rattle.std.proofs.Math.Nat.{mul-le-mul_left}
use Rattle.rlsf_model_sizes.specs.SizeClass.{is_row_length}
use Rattle.rlsf_model_sizes.specs.Sizes.{pool_size_for_objects}
use Rattle.rlsf_base.proofs.SizeMaps.ChunkLengths.{IsObjectPool-some}

pub objects_have_room : (fllen sllen count size len asked : ℕ) → IsTrue (is_row_length sllen) → pool_size_for_objects fllen sllen count size ≡ Some (len, asked)
    → count * size ≤ len
objects_have_room fllen sllen count size len asked row told =
    let pool = IsObjectPool-some fllen sllen count size len asked row told in
    let enough : size ≤ pool.block = omega (arith, pool.enough) in
    let times : count * size ≤ count * pool.block = mul-le-mul_left count enough in
    omega (arith, pool.length, times)
