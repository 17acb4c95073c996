use Rattle.rlsf_model_sizes.specs.SizeClass.{class_of}
use Rattle.rlsf_base.proofs.classes.map_floor.Goals as goal

pub returns : goal.returns
returns g c = c.within_rows.ensures (class_of g.row.SLLEN c.args.size) c.class_of.ensures
