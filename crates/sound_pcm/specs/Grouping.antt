-- The group of clocks under way.
use Rattle.std.specs.Prelude.{◌≡◌, ℕ, ◌*◌, ◌<◌, ◌≤◌, List}
use Rattle.sound_pcm.specs.declared.group.Group.{Group}
use Rattle.sound_pcm.specs.declared.mixer.TheConstants.{MAX_PER}
use Rattle.sound_pcm.specs.Samples.{group_after}

-- a group isn't whole, and has the weights of its clocks, each the sum of eight bytes
pub record IsGroup (g : Group) : Type 0 where
  pub longest : g.per ≤ MAX_PER
  pub unfinished : g.count < g.per
  pub sum : g.sum ≤ 8 * 255 * g.count

-- the group after clocks of these weights
pub record HasGrown (g now : Group) (added : List ℕ) : Type 0 where
  pub per : now.per ≡ g.per
  pub parts : (now.sum, now.count) ≡ group_after g.per g.sum g.count added
