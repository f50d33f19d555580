use Rattle.seal_laws.proofs.Beside.{view_kept}
use Rattle.seal_laws.proofs.views.seals_keep_views.Goals as goal

pub returns : goal.returns
returns a c u made g h undo before after can sees backed same then = view_kept c can u made g h undo before after sees backed same then
