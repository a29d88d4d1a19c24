-- Links.
use Rattle.std.specs.Prelude.{ℕ, Bool, if◌then◌else◌, List, Ok, Err, Result, ◌==◌, nat_eq}
use Rattle.refusal.specs.declared.Refusal.{Refusal}
use Rattle.refusal.specs.declared.Refusal.TheVariants.{Misdialled}
use Rattle.directory.specs.Steps.{known}
use Rattle.entries.specs.declared.link.Link.{Link}

-- the key by which it is found, its peer
abbrev pub link_key : Link → ℕ
link_key l = l.peer

-- what stands in a place that removing frees
abbrev pub no_link : Link
no_link = record { peer = 0 }

-- the link to a peer, which is not 0
abbrev pub link_to : ℕ → Result Link Refusal
link_to peer = if peer == 0 then Err Misdialled else Ok (record { peer = peer })

-- a peer is among the links
abbrev pub is_linked : List Link → ℕ → Bool
is_linked links peer = known nat_eq link_key links peer
