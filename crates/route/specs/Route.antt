-- Routes. Assumes nothing.
use Rattle.std.specs.Prelude.{◌≡◌, ℕ, ◌<◌, ◌≤◌, true, List, length}
use Rattle.prefix.specs.Prefix.{Prefix, is_prefix}
use Rattle.route.specs.Numbers.{rising}

-- path: the networks on the way, the nearest first; localPref: the larger the better; med: the smaller the better; communities: numbers that people agree on
pub record Route : Type 0 where
  pub prefix : Prefix
  pub path : List ℕ
  pub local_pref : ℕ
  pub med : ℕ
  pub communities : List ℕ

-- a path of 1 to 32 networks, and up to 8 communities in rising order, each once
pub record Formed (r : Route) : Type 0 where
  pub prefix_is_one : is_prefix r.prefix.address r.prefix.length ≡ true
  pub path_is_some : 0 < length r.path
  pub path_is_short : length r.path ≤ 32
  pub communities_are_few : length r.communities ≤ 8
  pub communities_rise : rising r.communities ≡ true

abbrev pub with_path : List ℕ → Route → Route
with_path path r = record { prefix = r.prefix; path = path; local_pref = r.local_pref; med = r.med; communities = r.communities }

abbrev pub with_local_pref : ℕ → Route → Route
with_local_pref n r = record { prefix = r.prefix; path = r.path; local_pref = n; med = r.med; communities = r.communities }

abbrev pub with_med : ℕ → Route → Route
with_med n r = record { prefix = r.prefix; path = r.path; local_pref = r.local_pref; med = n; communities = r.communities }

abbrev pub with_communities : List ℕ → Route → Route
with_communities cs r = record { prefix = r.prefix; path = r.path; local_pref = r.local_pref; med = r.med; communities = cs }
