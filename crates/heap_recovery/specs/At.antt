-- How a place at which an image is damaged is printed.
use Rattle.std.specs.Prelude.{ℕ, List, ◌++◌, codes}
use Rattle.std.specs.Fmt.{decimal}
use Rattle.heap_recovery.specs.declared.at.At.{At}
use Rattle.heap_recovery.specs.declared.at.At.TheVariants.{Batch, Rec, Reserve, Page, Address}

abbrev pub at_text : At → List ℕ
at_text (Batch offset) = codes "batch " ++ decimal offset
at_text (Rec lsn) = codes "record " ++ decimal lsn
at_text Reserve = codes "reserve"
at_text (Page page) = codes "page " ++ decimal page
at_text (Address address) = codes "address " ++ decimal address
