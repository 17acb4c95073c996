-- What the manual proofs of the exports cite.
pub use Rattle.rlsf_c_lemmas.proofs.Walking.{◌≡◌, ℕ, List, [], ◌∷◌, ◌++◌, refl, sym, ap, ◌∙◌, w64, MutBor, subst, proved, full_share, id⊢, ftrue, flft, flent, fsep, Val, vunit}
pub use Rattle.rlsf_c_lemmas.proofs.Walking.{vint, vptr, WpFn, fact, tables, ‵, raw, ◌⊛◌, some, later, prop, ◌$◌, ◌∵◌, !, qed, done, move, keep, drop, use1, use2, use3, split}
pub use Rattle.rlsf_c_lemmas.proofs.Walking.{join, fsplit, fjoin, fpack, feq_i, feq_l, pick, await, rewrite, regoal, suffices, group, lft_end, Body, enter, of_opd, addr, stop}
pub use Rattle.rlsf_c_lemmas.proofs.Walking.{no_more, and_then, returns, alloc_all, pass_all, free_all, look_at, get, through, sets, lands_as, usize, yes, Is, shows, ref_back}
pub use Rattle.rlsf_c_lemmas.proofs.Walking.{part_at, mem, uint_Makes, uint_vals, uint_Tells, uint_Lawful, Ptr, RawPtr, block_ptr, lies_at, in_a_block, rawptr_vals}
pub use Rattle.rlsf_c_lemmas.proofs.Walking.{rawptr_Tells, plain, nothing, owned, heard, peeks, calls_at, lasts, on_entry, triple_of, Stays, walk_of, stay_dropped}
pub use Rattle.rlsf_c_lemmas.proofs.Walking.{Goes-dropped, ends_at, framed, emp, fact_i, unit, only, use0, unit_lit}
pub use seplogic.Ra.Ura.{Ura}
pub use base.Fml.{Fml}
pub use base.Logic.{sep}
pub use types.Logic.{Logic, sem}
pub use prog.Model.{Model}
pub use prog.Wp.{Closed}
pub use contract.Running.{Running}
pub use mir.Syntax.{Fn, Callee, Ty, local, value_local, ty_ptr, ty_int, ty_ref, ty_unit, erased, mut, seq, assign, place, rv_opd, copy, opd_unit, addr_of, deref, call, return}
pub use denote.RattleType.{RattleType}
pub use denote.Builtin.{One, RefMutOf}
pub use denote.Triple.Clauses.{Ended, Clauses, Lasts, closing}
pub use denote.Triple.Spec.{Meets}
pub use Rattle.core.proofs.cell.Inside.{Good}
