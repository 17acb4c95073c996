-- The kinds of heaps: what the manual proofs of the exports need of a bitmap's type and of the numbers of rows and classes.
use Rattle.std.proofs.Common.{rules, ℕ, ◌<◌, ◌^◌, refl, lit<, w64}
use contract.BorrowLft.{◌⊑◌, ⊑_refl}
use contract.Running.{Running}
use denote.Builtin.{u16, u64}
use denote.Param.{layout, number, param}
use denote.Param.Laws.{Laws, of_field}
use denote.Param.Shared.{copy_shared}
use denote.RattleType.{RattleType}
use denote.Struct.Field.{u16-field, u64-field}
use denote.Struct.Laws.{u16-laws, u16-copy, u64-laws, u64-copy}
use mathlib.Core.List.{[]}
use mir.Syntax.{Dict}
use mir.Val.{Fits}
use prog.Memory.{size}
use prog.Model.{Model}
use seplogic.Ra.Ura.{Ura}
use types.Logic.{Logic}
use Rattle.rlsf_model_sizes.specs.SizeClass.{IsValid}
use Rattle.rlsf_int.specs.contracts.int.BitPattern.TheBound
use Rattle.rlsf_int.specs.declared.int.BitPattern.{Ghosts}
use Rattle.rlsf_int.specs.contracts.impls.u16.U16BitPattern.TheImpl as impl16
use Rattle.rlsf_int.specs.contracts.impls.u64.U64BitPattern.TheImpl as impl64
use Rattle.rlsf_int.proofs.impls.u16.U16BitPattern.TheImpl.Met.{passed as met16}
use Rattle.rlsf_int.proofs.impls.u64.U64BitPattern.TheImpl.Met.{passed as met64}
use Rattle.rlsf_heap.specs.contracts.heap.Heap.{the_row}
use Rattle.rlsf_heap.specs.contracts.words.HeapWords.{the_row as words_row}

-- a heap of this kind has bitmaps of the type B
pub record Kind : Type 2 where
  pub B : RattleType
  pub rows : ℕ
  pub classes : ℕ
  pub ghosts : Ghosts B.Denot
  pub dict : Dict
  pub laws : Laws B
  pub rows_fit : Fits w64 rows
  pub classes_fit : Fits w64 classes
  pub lasting : [] ⊑ B.lives
  pub met : (M : Type 1) (𝓤 : Ura M) (𝓛 : Logic 𝓤) (𝓜 : Model 𝓤 𝓛.H) (𝓡 : Running 𝓤 𝓛.H 𝓜) → TheBound.Met 𝓛 𝓜 𝓡 𝓡.env B ghosts dict
  pub valid : IsValid ghosts.width ghosts.width rows classes
  pub small : size (layout (the_row (param 0 B) (param 1 B) (param 2 (number rows)) (param 3 (number classes)) ghosts ghosts)) < 2 ^ 63
  pub words_small : size (layout (words_row (param 0 B) (param 1 B) (param 2 (number rows)) (param 3 (number classes)) ghosts ghosts)) < 2 ^ 63

-- the type of its heaps, as the generic calls have it
abbrev pub row : Kind → RattleType
row K = the_row (param 0 K.B) (param 1 K.B) (param 2 (number K.rows)) (param 3 (number K.classes)) K.ghosts K.ghosts

-- the type of the words of its heaps, whatever their values are
abbrev pub words : Kind → RattleType
words K = words_row (param 0 K.B) (param 1 K.B) (param 2 (number K.rows)) (param 3 (number K.classes)) K.ghosts K.ghosts

-- the numbers of rows and classes are valid for these bitmaps
pub large_valid : IsValid impl64.ghosts.width impl64.ghosts.width 64 64
large_valid = search rules

pub large_8_valid : IsValid impl64.ghosts.width impl64.ghosts.width 64 8
large_8_valid = search rules

pub large_32_valid : IsValid impl64.ghosts.width impl64.ghosts.width 64 32
large_32_valid = search rules

pub small_valid : IsValid impl16.ghosts.width impl16.ghosts.width 12 16
small_valid = search rules

-- 64 rows of so many classes
abbrev of_64_rows : (classes : ℕ) → Fits w64 classes → IsValid impl64.ghosts.width impl64.ghosts.width 64 classes
    → size (layout (the_row (param 0 u64) (param 1 u64) (param 2 (number 64)) (param 3 (number classes)) impl64.ghosts impl64.ghosts)) < 2 ^ 63
    → size (layout (words_row (param 0 u64) (param 1 u64) (param 2 (number 64)) (param 3 (number classes)) impl64.ghosts impl64.ghosts)) < 2 ^ 63 → Kind
of_64_rows classes fit valid small words_small = record {
  B = u64;
  rows = 64;
  classes = classes;
  ghosts = impl64.ghosts;
  dict = impl64.dict;
  laws = of_field u64-field u64-laws refl (copy_shared u64-field u64-copy);
  rows_fit = record { fits = lit< tt };
  classes_fit = fit;
  lasting = ⊑_refl [];
  met = λ M 𝓤 𝓛 𝓜 𝓡. met64 𝓡.env M 𝓤 𝓛 𝓜 𝓡;
  valid = valid;
  small = small;
  words_small = words_small;
}

abbrev pub large : Kind
large = of_64_rows 64 (record { fits = lit< tt }) large_valid (lit< tt) (lit< tt)

abbrev pub large_8 : Kind
large_8 = of_64_rows 8 (record { fits = lit< tt }) large_8_valid (lit< tt) (lit< tt)

abbrev pub large_32 : Kind
large_32 = of_64_rows 32 (record { fits = lit< tt }) large_32_valid (lit< tt) (lit< tt)

abbrev pub small : Kind
small = record {
  B = u16;
  rows = 12;
  classes = 16;
  ghosts = impl16.ghosts;
  dict = impl16.dict;
  laws = of_field u16-field u16-laws refl (copy_shared u16-field u16-copy);
  rows_fit = record { fits = lit< tt };
  classes_fit = record { fits = lit< tt };
  lasting = ⊑_refl [];
  met = λ M 𝓤 𝓛 𝓜 𝓡. met16 𝓡.env M 𝓤 𝓛 𝓜 𝓡;
  valid = small_valid;
  small = lit< tt;
  words_small = lit< tt;
}
