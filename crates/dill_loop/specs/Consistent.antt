-- What holds of a network at every moment, and why its marks have room.
use Rattle.std.specs.Prelude.{◌≡◌, ℕ, ◌+◌, ◌*◌, ◌<◌, ◌≤◌, ◌==◌, ◌||◌, Bool, true, List, [], ◌∷◌, length, vec_capacity}
use Rattle.std.specs.List.{list_any}
use Rattle.dill_kernel.specs.declared.ready.Ready.{Ready}
use Rattle.dill_loop.specs.Network.{Network, has_end}
use Rattle.dill_loop.specs.Store.{network_of}
use Rattle.dill_loop.specs.declared.network.Net.{Net}

-- A listener or the end of a stream is at this link.
abbrev pub has_link : ℕ → Network → Bool
has_link link net = list_any (λ l. l.link == link) net.listeners || list_any (has_end link) net.pairs

-- The links of the marks rise, from this one on.
abbrev pub AreRising : ℕ → List Ready → Type 0
AreRising low [] = Unit {0}
AreRising low (mark ∷ marks) = (low ≤ mark.link) × AreRising (mark.link + 1) marks

-- The link of each mark passes the test.
abbrev pub AreAmong : (ℕ → Bool) → List Ready → Type 0
AreAmong test [] = Unit {0}
AreAmong test (mark ∷ marks) = (test mark.link ≡ true) × AreAmong test marks

-- Marks are in rising number of their links, which are there.
pub record IsConsistent (net : Network) : Type 0 where
  pub rising : AreRising 0 net.marks
  pub there : AreAmong (λ link. has_link link net) net.marks

-- the most links that the network can have
abbrev pub most_links : Network → ℕ
most_links net = length net.listeners + 2 * length net.pairs

-- There is a mark at most for each link, and room for one mark more; a read may give a byte.
pub record HasRoom (net : Net) : Type 0 where
  pub marks : length net.marks.items ≤ most_links (network_of net)
  pub room : most_links (network_of net) < vec_capacity net.marks
  pub cut : 0 < net.cut
