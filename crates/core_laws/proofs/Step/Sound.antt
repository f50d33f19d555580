-- What a sound core agrees with.
use Rattle.std.proofs.Common.{◌≡◌, inl, inr, ℕ, None, Some, refl, sym, ◌∙◌}
use Rattle.graph_model.specs.History.{Account, account}
use Rattle.heap_model.specs.Core.{Core}
use Rattle.core_laws.proofs.Sessions.Actives.{same_actives}
use Rattle.core_laws.specs.Valid.{Agrees, IsValid, IsSound, IsReached}

-- one more entry changes nothing, nor does it whether the disk failed
pub agrees_entry : (a : Account) (c : Core) (n : ℕ) → Agrees a c → Agrees (record a { failed = None; entries = n }) c
agrees_entry a c n h = record {
  unfailed = refl;
  certain = h.certain;
  in_sessions = h.in_sessions;
  in_range = h.in_range;
  next_fits = h.next_fits;
  numbered = h.numbered;
  disk = h.disk;
  behind = h.behind;
  told = h.told;
  next_known = h.next_known;
  losers = λ q us is. same_actives a (record a { failed = None; entries = n }) refl q (h.losers q us is);
  writers = h.writers;
  room = h.room;
}

-- nor does it whether a seal is in doubt
pub agrees_certain : (a : Account) (c : Core) → Agrees a c → Agrees (record a { failed = None; in_doubt = None }) c
agrees_certain a c h = record {
  unfailed = refl;
  certain = refl;
  in_sessions = h.in_sessions;
  in_range = h.in_range;
  next_fits = h.next_fits;
  numbered = h.numbered;
  disk = h.disk;
  behind = h.behind;
  told = h.told;
  next_known = h.next_known;
  losers = λ q us is. same_actives a (record a { failed = None; in_doubt = None }) refl q (h.losers q us is);
  writers = h.writers;
  room = h.room;
}

-- a sound core agrees with its history but for a failure, and a seal that it left in doubt
pub sound_agrees : (c : Core) → IsSound c → Agrees (record (account c.history) { failed = None; in_doubt = None }) c
sound_agrees c (inl valid) = agrees_certain (account c.history) c valid
sound_agrees c (inr failed) = failed.before

-- so does a reached one
pub reached_agrees : (c : Core) → IsReached c → Agrees (record (account c.history) { failed = None; in_doubt = None }) c
reached_agrees c reached = sound_agrees c reached.sound

-- a sound core is valid until the disk stops or fails
pub sound_valid : (c : Core) → IsSound c → (account c.history).failed ≡ None → IsValid c
sound_valid c (inl valid) none = valid
sound_valid c (inr failed) none = let never : None ≡ Some failed.entry = sym none ∙ failed.failed in absurd (cc never)
