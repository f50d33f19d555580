use Rattle.seen_laws.proofs.Reading.{field_here, fields_here}
use Rattle.seen_laws.proofs.reads.objects_that_are_not_gray_have_their_fields.Goals as goal

pub returns : goal.returns
returns c s places remaining words t made g us id at heap backed stands there each =
    fields_here us heap backed stands id at there (λ i within. let both = each i within in field_here us heap backed stands id at i there within both.0 both.1)
