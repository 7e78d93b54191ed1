-- table_gain_highrates of TS 26.073 at MR74 (docs/BENCH.md, "Gains from an index"): 128 rows of pitch gain (Q14), correction of the predicted gain (Q12) and
-- energy (Q10). In the standard a row has a fourth number, the third of the four, which is another mode's: 577 662 -2692 -16214 is 577 662 -16214 here.
use Rattle.std.specs.Prelude.{List, [], ◌∷◌, ℤ, pos, negsuc, slice_index_or}
use Rattle.lists.specs.Lists.{minus}

unfoldable pub gain_table : List (List ℤ)
gain_table =
    (pos 577 ∷ pos 662 ∷ minus 16214 ∷ []) ∷ (pos 806 ∷ pos 1836 ∷ minus 7135 ∷ []) ∷
    (pos 3109 ∷ pos 1052 ∷ minus 12086 ∷ []) ∷ (pos 4181 ∷ pos 1387 ∷ minus 9629 ∷ []) ∷
    (pos 2373 ∷ pos 1425 ∷ minus 9394 ∷ []) ∷ (pos 3248 ∷ pos 1985 ∷ minus 6442 ∷ []) ∷
    (pos 1827 ∷ pos 2320 ∷ minus 5056 ∷ []) ∷ (pos 941 ∷ pos 3314 ∷ minus 1885 ∷ []) ∷
    (pos 2351 ∷ pos 2977 ∷ minus 2838 ∷ []) ∷ (pos 3616 ∷ pos 2420 ∷ minus 4681 ∷ []) ∷
    (pos 3451 ∷ pos 3096 ∷ minus 2490 ∷ []) ∷ (pos 2955 ∷ pos 4301 ∷ pos 434 ∷ []) ∷
    (pos 1848 ∷ pos 4500 ∷ pos 836 ∷ []) ∷ (pos 3884 ∷ pos 5416 ∷ pos 2484 ∷ []) ∷
    (pos 1187 ∷ pos 7210 ∷ pos 5030 ∷ []) ∷ (pos 3083 ∷ pos 9000 ∷ pos 7002 ∷ []) ∷
    (pos 7384 ∷ pos 883 ∷ minus 13647 ∷ []) ∷ (pos 5962 ∷ pos 1506 ∷ minus 8900 ∷ []) ∷
    (pos 5155 ∷ pos 2134 ∷ minus 5800 ∷ []) ∷ (pos 7944 ∷ pos 2009 ∷ minus 6335 ∷ []) ∷
    (pos 6507 ∷ pos 2250 ∷ minus 5327 ∷ []) ∷ (pos 7670 ∷ pos 2752 ∷ minus 3537 ∷ []) ∷
    (pos 5952 ∷ pos 3016 ∷ minus 2724 ∷ []) ∷ (pos 4898 ∷ pos 3764 ∷ minus 751 ∷ []) ∷
    (pos 6989 ∷ pos 3588 ∷ minus 1177 ∷ []) ∷ (pos 8174 ∷ pos 3978 ∷ minus 260 ∷ []) ∷
    (pos 6064 ∷ pos 4404 ∷ pos 645 ∷ []) ∷ (pos 7709 ∷ pos 5087 ∷ pos 1928 ∷ []) ∷
    (pos 5523 ∷ pos 6021 ∷ pos 3426 ∷ []) ∷ (pos 7769 ∷ pos 7126 ∷ pos 4926 ∷ []) ∷
    (pos 6060 ∷ pos 7938 ∷ pos 5885 ∷ []) ∷ (pos 5594 ∷ pos 11487 ∷ pos 9172 ∷ []) ∷
    (pos 10581 ∷ pos 1356 ∷ minus 9831 ∷ []) ∷ (pos 9049 ∷ pos 1597 ∷ minus 8380 ∷ []) ∷
    (pos 9794 ∷ pos 2035 ∷ minus 6220 ∷ []) ∷ (pos 8946 ∷ pos 2415 ∷ minus 4700 ∷ []) ∷
    (pos 10296 ∷ pos 2584 ∷ minus 4099 ∷ []) ∷ (pos 9407 ∷ pos 2734 ∷ minus 3595 ∷ []) ∷
    (pos 8700 ∷ pos 3218 ∷ minus 2144 ∷ []) ∷ (pos 9757 ∷ pos 3395 ∷ minus 1669 ∷ []) ∷
    (pos 10177 ∷ pos 3892 ∷ minus 454 ∷ []) ∷ (pos 9170 ∷ pos 4528 ∷ pos 891 ∷ []) ∷
    (pos 10152 ∷ pos 5004 ∷ pos 1781 ∷ []) ∷ (pos 9114 ∷ pos 5735 ∷ pos 2993 ∷ []) ∷
    (pos 10500 ∷ pos 6266 ∷ pos 3782 ∷ []) ∷ (pos 10110 ∷ pos 7631 ∷ pos 5534 ∷ []) ∷
    (pos 8844 ∷ pos 8727 ∷ pos 6728 ∷ []) ∷ (pos 8956 ∷ pos 12496 ∷ pos 9921 ∷ []) ∷
    (pos 12924 ∷ pos 976 ∷ minus 12753 ∷ []) ∷ (pos 11435 ∷ pos 1755 ∷ minus 7539 ∷ []) ∷
    (pos 12138 ∷ pos 2328 ∷ minus 5024 ∷ []) ∷ (pos 11388 ∷ pos 2368 ∷ minus 4872 ∷ []) ∷
    (pos 10700 ∷ pos 3064 ∷ minus 2580 ∷ []) ∷ (pos 12332 ∷ pos 2861 ∷ minus 3192 ∷ []) ∷
    (pos 11722 ∷ pos 3327 ∷ minus 1848 ∷ []) ∷ (pos 11270 ∷ pos 3700 ∷ minus 904 ∷ []) ∷
    (pos 10861 ∷ pos 4413 ∷ pos 663 ∷ []) ∷ (pos 12082 ∷ pos 4533 ∷ pos 902 ∷ []) ∷
    (pos 11283 ∷ pos 5205 ∷ pos 2132 ∷ []) ∷ (pos 11960 ∷ pos 6305 ∷ pos 3837 ∷ []) ∷
    (pos 11167 ∷ pos 7534 ∷ pos 5420 ∷ []) ∷ (pos 12128 ∷ pos 8329 ∷ pos 6312 ∷ []) ∷
    (pos 10969 ∷ pos 10777 ∷ pos 8604 ∷ []) ∷ (pos 10300 ∷ pos 17376 ∷ pos 12853 ∷ []) ∷
    (pos 13899 ∷ pos 1681 ∷ minus 7921 ∷ []) ∷ (pos 12580 ∷ pos 2045 ∷ minus 6179 ∷ []) ∷
    (pos 13265 ∷ pos 2439 ∷ minus 4610 ∷ []) ∷ (pos 14033 ∷ pos 2989 ∷ minus 2802 ∷ []) ∷
    (pos 13452 ∷ pos 3098 ∷ minus 2482 ∷ []) ∷ (pos 12396 ∷ pos 3658 ∷ minus 1006 ∷ []) ∷
    (pos 13510 ∷ pos 3780 ∷ minus 713 ∷ []) ∷ (pos 12880 ∷ pos 4272 ∷ pos 374 ∷ []) ∷
    (pos 13533 ∷ pos 4861 ∷ pos 1523 ∷ []) ∷ (pos 12667 ∷ pos 5457 ∷ pos 2552 ∷ []) ∷
    (pos 13854 ∷ pos 6106 ∷ pos 3551 ∷ []) ∷ (pos 13031 ∷ pos 6483 ∷ pos 4084 ∷ []) ∷
    (pos 13557 ∷ pos 7721 ∷ pos 5639 ∷ []) ∷ (pos 12957 ∷ pos 9311 ∷ pos 7304 ∷ []) ∷
    (pos 13714 ∷ pos 11551 ∷ pos 9221 ∷ []) ∷ (pos 12591 ∷ pos 15206 ∷ pos 11667 ∷ []) ∷
    (pos 15113 ∷ pos 1540 ∷ minus 8700 ∷ []) ∷ (pos 15072 ∷ pos 2333 ∷ minus 5007 ∷ []) ∷
    (pos 14527 ∷ pos 2511 ∷ minus 4352 ∷ []) ∷ (pos 14692 ∷ pos 3199 ∷ minus 2197 ∷ []) ∷
    (pos 15382 ∷ pos 3560 ∷ minus 1247 ∷ []) ∷ (pos 14133 ∷ pos 3960 ∷ minus 300 ∷ []) ∷
    (pos 15102 ∷ pos 4236 ∷ pos 298 ∷ []) ∷ (pos 14332 ∷ pos 4824 ∷ pos 1454 ∷ []) ∷
    (pos 14846 ∷ pos 5451 ∷ pos 2542 ∷ []) ∷ (pos 15306 ∷ pos 6083 ∷ pos 3518 ∷ []) ∷
    (pos 14329 ∷ pos 6888 ∷ pos 4623 ∷ []) ∷ (pos 15060 ∷ pos 7689 ∷ pos 5602 ∷ []) ∷
    (pos 14406 ∷ pos 9426 ∷ pos 7413 ∷ []) ∷ (pos 15387 ∷ pos 9741 ∷ pos 7706 ∷ []) ∷
    (pos 14824 ∷ pos 14271 ∷ pos 11102 ∷ []) ∷ (pos 13600 ∷ pos 24939 ∷ pos 16067 ∷ []) ∷
    (pos 16396 ∷ pos 1969 ∷ minus 6517 ∷ []) ∷ (pos 16817 ∷ pos 2832 ∷ minus 3283 ∷ []) ∷
    (pos 15713 ∷ pos 2843 ∷ minus 3248 ∷ []) ∷ (pos 16104 ∷ pos 3336 ∷ minus 1825 ∷ []) ∷
    (pos 16384 ∷ pos 3963 ∷ minus 294 ∷ []) ∷ (pos 16940 ∷ pos 4579 ∷ pos 992 ∷ []) ∷
    (pos 15711 ∷ pos 4599 ∷ pos 1030 ∷ []) ∷ (pos 16222 ∷ pos 5448 ∷ pos 2537 ∷ []) ∷
    (pos 16832 ∷ pos 6382 ∷ pos 3945 ∷ []) ∷ (pos 15745 ∷ pos 7141 ∷ pos 4944 ∷ []) ∷
    (pos 16326 ∷ pos 7469 ∷ pos 5343 ∷ []) ∷ (pos 16611 ∷ pos 8624 ∷ pos 6622 ∷ []) ∷
    (pos 17028 ∷ pos 10418 ∷ pos 8303 ∷ []) ∷ (pos 15905 ∷ pos 11817 ∷ pos 9423 ∷ []) ∷
    (pos 16878 ∷ pos 14690 ∷ pos 11360 ∷ []) ∷ (pos 16515 ∷ pos 20870 ∷ pos 14483 ∷ []) ∷
    (pos 18142 ∷ pos 2083 ∷ minus 6013 ∷ []) ∷ (pos 19401 ∷ pos 3178 ∷ minus 2257 ∷ []) ∷
    (pos 17508 ∷ pos 3426 ∷ minus 1589 ∷ []) ∷ (pos 20054 ∷ pos 4027 ∷ minus 151 ∷ []) ∷
    (pos 18069 ∷ pos 4249 ∷ pos 326 ∷ []) ∷ (pos 18952 ∷ pos 5066 ∷ pos 1890 ∷ []) ∷
    (pos 17711 ∷ pos 5402 ∷ pos 2461 ∷ []) ∷ (pos 19835 ∷ pos 6192 ∷ pos 3676 ∷ []) ∷
    (pos 17950 ∷ pos 7014 ∷ pos 4784 ∷ []) ∷ (pos 21318 ∷ pos 7877 ∷ pos 5816 ∷ []) ∷
    (pos 17910 ∷ pos 9289 ∷ pos 7283 ∷ []) ∷ (pos 19144 ∷ pos 9290 ∷ pos 7284 ∷ []) ∷
    (pos 20517 ∷ pos 11381 ∷ pos 9089 ∷ []) ∷ (pos 18075 ∷ pos 14485 ∷ pos 11234 ∷ []) ∷
    (pos 19999 ∷ pos 17882 ∷ pos 13108 ∷ []) ∷ (pos 18842 ∷ pos 32764 ∷ pos 18494 ∷ []) ∷ []

-- the row of an index, none outside the table
unfoldable pub gain_row : ℤ → List ℤ
gain_row (pos index) = slice_index_or gain_table index []
gain_row (negsuc n) = []
