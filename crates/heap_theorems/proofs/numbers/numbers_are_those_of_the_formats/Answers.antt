use Rattle.std.proofs.Common.{refl}
use Rattle.heap_theorems.specs.Numbers.{HasWords, HasRecords, HasPlan}
use Rattle.heap_theorems.proofs.numbers.numbers_are_those_of_the_formats.Goals as goal

words : HasWords
words = record { stable = refl; volatile = refl; page = refl; fields = refl; fields_at = refl; root = refl }

records : HasRecords
records = record { first = refl; update = refl; put = refl; commit = refl; end = refl; batch = refl }

plan : HasPlan
plan = record { least_log = refl; most_log = refl; most_pages = refl; size = λ p l. refl; frame = λ p l f. refl }

pub returns : goal.returns
returns c = record { words = words; records = records; plan = plan; log_made = refl; script = refl }
