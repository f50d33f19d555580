use Rattle.std.proofs.Common.{◌≡◌, ℕ, ◌+◌, ◌<◌, ◌||◌, get_or, length, take, map, sum_by}
use Rattle.std.specs.List.{flat_map}
use Rattle.std.specs.FinSet.{contains}
use Rattle.heap_spaces.specs.declared.collection.CopiedObject.{CopiedObject}
use Rattle.heap_spaces.specs.Addresses.{with_all}
use Rattle.heap_spaces.specs.Collection.{gray_from, page_of}
use Rattle.heap_spaces.specs.PageAddresses.{HasRoomFor, waits_in}
use Rattle.heap_spaces.specs.PageTable.{HasRoom}
use Rattle.heap_spaces.proofs.collection.Collection.add_copies.Given as goal

-- there is room for the copies so far
abbrev pub invariant-room : goal.invariant-room
invariant-room l = record {
  used : l.self-inside.used ≡ l.fn.self.used;
  copied : l.self-inside.copied ≡ l.fn.self.copied;
  moved : l.self-inside.moved.set ≡ l.fn.self.moved;
  gray : l.self-inside.gray.set ≡ l.fn.self.gray;
  from : (k : ℕ) → k < l.copy-index → HasRoom l.self-inside.moved.room (page_of (get_or l.copies k (record { from = 0; to = 0; header = 0; words = 0 })).from);
  to : (k : ℕ) → k < l.copy-index → HasRoom l.self-inside.gray.room (page_of (get_or l.copies k (record { from = 0; to = 0; header = 0; words = 0 })).to);
  last_from : (page : ℕ) → page + 1 ≡ l.last.0 → HasRoom l.self-inside.moved.room page;
  last_to : (page : ℕ) → page + 1 ≡ l.last.1 → HasRoom l.self-inside.gray.room page;
}

-- each set and the addresses that wait for it have the copies so far, and there is room for all
abbrev pub invariant-copies : goal.invariant-copies
invariant-copies l = record {
  used : l.self-inside.used ≡ l.fn.self.used;
  copied : l.self-inside.copied ≡ l.fn.self.copied;
  words : l.words ≡ sum_by (λ (c : CopiedObject). c.words) (take l.copy-index l.copies);
  moved : (q : ℕ) → (contains l.self-inside.moved.set q || waits_in l.from q) ≡ contains (with_all l.fn.self.moved (map (λ (c : CopiedObject). c.from) (take l.copy-index l.copies))) q;
  gray : (q : ℕ) → (contains l.self-inside.gray.set q || waits_in l.to q) ≡ contains (with_all l.fn.self.gray (flat_map (λ (c : CopiedObject). gray_from c.to c.header) (take l.copy-index l.copies))) q;
  from : (k : ℕ) → k < length l.copies → HasRoom l.self-inside.moved.room (page_of (get_or l.copies k (record { from = 0; to = 0; header = 0; words = 0 })).from);
  to : (k : ℕ) → k < length l.copies → HasRoom l.self-inside.gray.room (page_of (get_or l.copies k (record { from = 0; to = 0; header = 0; words = 0 })).to);
  wait_from : HasRoomFor l.self-inside.moved.room l.from;
  wait_to : HasRoomFor l.self-inside.gray.room l.to;
}
