-- Document 01's bench examples P1 to P12, as one table of cases under one claim; and its whole case.
-- Assumes nothing.
use Rattle.std.specs.Prelude.{◌+◌, List, [], ◌∷◌, T}
use Rattle.rules.specs.Rows.{step}
use Rattle.rules.specs.Probes.{Case, ◌gives◌, ◌refused_with◌, ◌refused_with◌back◌, all_right, many, publish, adopt, acquire, release, revoke, replace, reclaim, read, observe, resolve, count, empty, given}

abbrev pub P1ToP12 : List Case
P1ToP12 =
    -- P1 empty: count 0, resolve 10, revoke 0 gives 1
    record { from = empty; asked = (count gives 0 ∷ []) ∷ (resolve 7 refused_with 10) ∷ (revoke 0 refused_with 1) ∷ [] }
    -- P2 first publish: identifier 0, revision 0
    ∷ record { from = empty; asked = (publish 4 0 7 900 gives 0 ∷ []) ∷ (observe 0 gives 0 ∷ 900 ∷ []) ∷ [] }
    -- P3 same port again while visible: 3
    ∷ record { from = empty; asked = (publish 4 0 7 900 gives 0 ∷ []) ∷ (publish 5 0 7 901 refused_with 3 back 901) ∷ [] }
    -- P4 after revoke, same port: identifier 1, with 0 still retained
    ∷ record {
      from = empty;
      asked =
          (publish 4 0 7 900 gives 0 ∷ [])
          ∷ (revoke 0 gives [])
          ∷ (publish 5 0 7 901 gives 1 ∷ [])
          ∷ (observe 0 gives 0 ∷ 900 ∷ [])
          ∷ (count gives 2 ∷ [])
          ∷ [];
    }
    -- P5 96 records: 7, even where the port conflicts (port 7 is held, port 96 is free; then one is reclaimed, then all are)
    ∷ record {
      from = empty;
      asked =
          many 96 (λ n. publish 4 0 n (900 + n) gives n ∷ [])
          ((publish 5 0 7 800 refused_with 7 back 800)
          ∷ (publish 5 0 96 801 refused_with 7 back 801)
          ∷ many 96 (λ n. revoke n gives [])
          ((reclaim 0 gives 900 ∷ [])
          ∷ (count gives 95 ∷ [])
          ∷ (publish 5 0 7 802 refused_with 7 back 802)
          ∷ many 95 (λ n. reclaim (1 + n) gives (901 + n) ∷ [])
          ((count gives 0 ∷ []) ∷ (publish 5 0 7 803 refused_with 7 back 803) ∷ [])));
    }
    -- P6 acquire, release, acquire: second lease is 1; read 0 gives 6; read 2 gives 1 (and release as read)
    ∷ record {
      from = empty;
      asked =
          (publish 4 0 7 900 gives 0 ∷ [])
          ∷ (acquire 0 5 1 gives 0 ∷ [])
          ∷ (release 0 gives [])
          ∷ (acquire 0 5 1 gives 1 ∷ [])
          ∷ (read 0 refused_with 6)
          ∷ (read 2 refused_with 1)
          ∷ (read 1 gives 0 ∷ 0 ∷ 900 ∷ [])
          ∷ (release 0 refused_with 6)
          ∷ (release 2 refused_with 1)
          ∷ [];
    }
    -- P7 leases 0 to 127 active: 7; one released: lease 128
    ∷ record {
      from = empty;
      asked =
          (publish 4 0 7 900 gives 0 ∷ [])
          ∷ many 128 (λ n. acquire 0 5 1 gives n ∷ [])
          ((acquire 0 5 1 refused_with 7)
          ∷ (release 64 gives [])
          ∷ (acquire 0 5 1 gives 128 ∷ [])
          ∷ (acquire 0 5 1 refused_with 7)
          ∷ (read 128 gives 0 ∷ 0 ∷ 900 ∷ [])
          ∷ []);
    }
    -- P8 revoked: replace by a wrong owner 8, by the right one 2; after reclaim still 2
    ∷ record {
      from = empty;
      asked =
          (publish 4 0 7 900 gives 0 ∷ [])
          ∷ (revoke 0 gives [])
          ∷ (replace 0 5 0 901 refused_with 8 back 901)
          ∷ (replace 0 4 0 902 refused_with 2 back 902)
          ∷ (reclaim 0 gives 900 ∷ [])
          ∷ (replace 0 4 0 903 refused_with 2 back 903)
          ∷ [];
    }
    -- P9 given revision 18,446,744,073,709,551,614: replace succeeds, the next gives 7
    ∷ record {
      from = given 18_446_744_073_709_551_614 0;
      asked =
          (replace 0 4 0 901 gives 900 ∷ [])
          ∷ (replace 0 4 0 902 refused_with 7 back 902)
          ∷ (observe 0 gives 18_446_744_073_709_551_615 ∷ 901 ∷ [])
          ∷ [];
    }
    -- P10 adopt: 0 to 1 succeeds, again 8; leased 4; reclaimed 6
    ∷ record {
      from = empty;
      asked =
          (publish 4 0 7 900 gives 0 ∷ [])
          ∷ (adopt 0 4 1 gives [])
          ∷ (adopt 0 4 1 refused_with 8)
          ∷ (publish 4 0 8 901 gives 1 ∷ [])
          ∷ (acquire 1 5 1 gives 0 ∷ [])
          ∷ (adopt 1 4 1 refused_with 4)
          ∷ (publish 4 0 9 902 gives 2 ∷ [])
          ∷ (revoke 2 gives [])
          ∷ (reclaim 2 gives 902 ∷ [])
          ∷ (adopt 2 4 1 refused_with 6)
          ∷ [];
    }
    -- P11 reclaim visible and leased 5; revoked and leased 4; drained succeeds; again 6
    ∷ record {
      from = empty;
      asked =
          (publish 4 0 7 900 gives 0 ∷ [])
          ∷ (acquire 0 5 1 gives 0 ∷ [])
          ∷ (reclaim 0 refused_with 5)
          ∷ (revoke 0 gives [])
          ∷ (reclaim 0 refused_with 4)
          ∷ (release 0 gives [])
          ∷ (reclaim 0 gives 900 ∷ [])
          ∷ (reclaim 0 refused_with 6)
          ∷ [];
    }
    -- P12 counter at its end: acquire 7
    ∷ record { from = given 0 18_446_744_073_709_551_615; asked = (acquire 0 5 1 refused_with 7) ∷ [] }
    ∷ []

-- each of the twelve comes out as it says
pub P1ToP12Hold : T (all_right P1ToP12)
unfolding step
P1ToP12Hold = tt

-- The whole case of document 01's trace text, on an empty store.
abbrev pub whole_case : Case
whole_case =
    record {
      from = empty;
      asked =
          (publish 4 0 7 900 gives 0 ∷ [])
          ∷ (acquire 0 5 1 gives 0 ∷ [])
          ∷ (revoke 0 gives [])
          ∷ (reclaim 0 refused_with 4)
          ∷ (release 0 gives [])
          ∷ (reclaim 0 gives 900 ∷ [])
          ∷ (count gives 0 ∷ [])
          ∷ [];
    }

pub whole_case_holds : T (all_right (whole_case ∷ []))
unfolding step
whole_case_holds = tt
